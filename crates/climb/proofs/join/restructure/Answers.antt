use Rattle.std.proofs.Common.{Some, arith}
use Rattle.cells.specs.Asking.{Due}
use Rattle.cells.proofs.Asking.{due_kept, costs_more, costs_then}
use Rattle.climb.proofs.Joining.{mends_as, restructure_no_low, restructure_no_high, restructured}
use Rattle.climb.proofs.join.restructure.Goals as goal

pub returns-in_err-low : goal.returns-in_err-low
returns-in_err-low g c =
    let before = c.args.recogniser.now in
    let after = c.mend.new.recogniser in
    let mode = c.args.mode in
    record {
      value = restructure_no_low (g.R.Recogniser.meaning before) (Due mode (g.R.Recogniser.orderly before)) c.args.cells.now c.mend.new.cells c.args.triple c.mend.new.cells c.from_residual.result c.in_err-low.ensures.value;
      asks = costs_more mode 2 6 before after (omega arith) c.in_err-low.ensures.asks;
    }

pub returns-in_err-high : goal.returns-in_err-high
returns-in_err-high g c =
    let before = c.args.recogniser.now in
    let between = c.mend.new.recogniser in
    let after = c.mend-2.new.recogniser in
    let mode = c.args.mode in
    let meaning = g.R.Recogniser.meaning in
    let orderly = g.R.Recogniser.orderly in
    let triple = c.args.triple in
    let first = c.in_ok-low.ensures in
    let second = c.in_err-high.ensures in
    record {
      value = restructure_no_high (meaning before) (Due mode (orderly before)) c.args.cells.now c.mend.new.cells triple c.mend-2.new.cells c.mend-2.new.cells (Some c.in_ok-low.low) c.from_residual-in_err-high.result first.value (mends_as (meaning before) (meaning between) (Due mode (orderly before)) (Due mode (orderly between)) c.mend.new.cells c.mend-2.new.cells triple.high triple.third triple.fourth _ first.asks.same (due_kept mode first.asks.order) second.value);
      asks = costs_then mode 2 2 6 before between after (omega arith) first.asks second.asks;
    }

pub returns : goal.returns
returns g c =
    let before = c.args.recogniser.now in
    let between = c.mend.new.recogniser in
    let beyond = c.mend-2.new.recogniser in
    let after = c.mend-3.new.recogniser in
    let mode = c.args.mode in
    let meaning = g.R.Recogniser.meaning in
    let orderly = g.R.Recogniser.orderly in
    let triple = c.args.triple in
    let first = c.in_ok-low.ensures in
    let second = c.in_ok-high.ensures in
    let third = c.mend-3.ensures in
    let two = costs_then mode 2 2 4 before between beyond (omega arith) first.asks second.asks in
    record {
      value = restructured (meaning before) (Due mode (orderly before)) c.args.cells.now c.mend.new.cells triple c.mend-2.new.cells c.mend-3.new.cells (Some c.in_ok-low.low) (Some c.in_ok-high.high) c.mend-3.result first.value
          (mends_as (meaning before) (meaning between) (Due mode (orderly before)) (Due mode (orderly between)) c.mend.new.cells c.mend-2.new.cells triple.high triple.third triple.fourth (Some c.in_ok-high.high) first.asks.same (due_kept mode first.asks.order) second.value)
          (mends_as (meaning before) (meaning beyond) (Due mode (orderly before)) (Due mode (orderly beyond)) c.mend-2.new.cells c.mend-3.new.cells triple.middle (Some c.in_ok-low.low) (Some c.in_ok-high.high) c.mend-3.result two.same (due_kept mode two.order) third.value);
      asks = costs_then mode 4 2 6 before beyond after (omega arith) two third.asks;
    }
