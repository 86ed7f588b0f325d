use Rattle.std.proofs.Common.{◌-◌, ◌*◌, length, Some, None, ◌∙◌, arith}
use Rattle.std.proofs.lemmas.Iterator.Adapters.{YieldsList-from_rev_slice}
use Rattle.std.proofs.lemmas.Iterator.Consumers.{YieldsList-turn, YieldsList-end}
use Rattle.std.proofs.lemmas.List.{length_push}
use Rattle.cells.specs.Asking.{Due, cost}
use Rattle.cells.proofs.Asking.{due_kept, asks_none, costs_more, costs_then}
use Rattle.climb.proofs.Steps.{step_turn, step_end}
use Rattle.edits.proofs.Renewing.{freshens_as, renew_start, renew_none, renew_step, renew_end}
use Rattle.edits.proofs.replace.renew.Goals as goal

pub loop-step-init : goal.loop-step-init
loop-step-init g c =
    let before = c.args.recogniser.now in
    let way = c.args.way.now in
    record {
      asked = asks_none (cost c.args.mode 0) before;
      renewing = λ up was sub n k al rep ss ea dis tall big. renew_start (g.R.Recogniser.meaning before) (Due c.args.mode (g.R.Recogniser.orderly before)) c.args.cells.now up was sub n k way.steps c.args.start (way.depth - 0) (al.deep ∙ omega arith) al.stacked rep ss ea;
    }

pub returns-in_err-top : goal.returns-in_err-top
returns-in_err-top g c =
    let before = c.args.recogniser.now in
    let between = c.loop-step.recogniser in
    let meaning = g.R.Recogniser.meaning in
    let orderly = g.R.Recogniser.orderly in
    let mode = c.args.mode in
    let way = c.args.way.now in
    let cells = c.loop-step.cells in
    let after = c.freshen.new.cells in
    let taken = c.in_ok-taken.ensures.value in
    let done = length c.loop-step.yielded in
    let d = way.depth - done - 1 in
    let one = c.in-Some.step.now in
    let turn = step_turn way c.in_ok-taken.field-0.now taken done one (YieldsList-turn (YieldsList-from_rev_slice {s = c.into_iter-step-iterator.result} c.in_ok-taken.field-0.now cc) c.loop-step.yielded _ c.loop-step.yielded_by _ _ c.in-Some.step c.in-Some.is c.next.ensures.steps) in
    let so_far = c.loop-step.invariant.asked in
    let level = c.in_err-top.ensures in
    let room = turn.0 in
    let few = taken.room in
    let at = turn.1 d (omega arith) in
    record {
      value = λ up was sub n k al rep ss ea dis tall big deep. absurd (renew_none (meaning before) (Due mode (orderly before)) c.args.cells.now up was sub n k way.steps dis tall big cells after c.loop-step.top d one at (freshens_as (meaning before) (meaning between) (Due mode (orderly before)) (Due mode (orderly between)) cells after one.place None so_far.same (due_kept mode so_far.order) level.value) (way.depth - done) (omega arith) (c.loop-step.invariant.renewing up was sub n k al rep ss ea dis tall big));
      asks = costs_then mode (2 * done) 2 (2 * way.depth) before between c.freshen.new.recogniser (omega arith) so_far level.asks;
      most = costs_then mode (2 * done) 2 48 before between c.freshen.new.recogniser (omega arith) so_far level.asks;
    }

pub loop-step-preserved : goal.loop-step-preserved
loop-step-preserved g c =
    let before = c.args.recogniser.now in
    let between = c.loop-step.recogniser in
    let meaning = g.R.Recogniser.meaning in
    let orderly = g.R.Recogniser.orderly in
    let mode = c.args.mode in
    let way = c.args.way.now in
    let cells = c.loop-step.cells in
    let after = c.freshen.new.cells in
    let done = length c.loop-step.yielded in
    let more = length_push c.loop-step.yielded c.in-Some.step in
    let one = c.in-Some.step.now in
    let turn = step_turn way c.in_ok-taken.field-0.now c.in_ok-taken.ensures.value done one (YieldsList-turn (YieldsList-from_rev_slice {s = c.into_iter-step-iterator.result} c.in_ok-taken.field-0.now cc) c.loop-step.yielded _ c.loop-step.yielded_by _ _ c.in-Some.step c.in-Some.is c.next.ensures.steps) in
    let next = c.in_ok-top.top in
    let so_far = c.loop-step.invariant.asked in
    let level = c.in_ok-top.ensures in
    let room = turn.0 in
    record {
      asked = costs_then mode (2 * done) 2 _ before between c.freshen.new.recogniser (omega arith) so_far level.asks;
      renewing = λ up was sub n k al rep ss ea dis tall big. renew_step (meaning before) (Due mode (orderly before)) c.args.cells.now up was sub n k way.steps dis tall big cells after c.loop-step.top next _ one (turn.1 _ (omega arith)) (freshens_as (meaning before) (meaning between) (Due mode (orderly before)) (Due mode (orderly between)) cells after one.place (Some next) so_far.same (due_kept mode so_far.order) level.value) (way.depth - done) (omega arith) (c.loop-step.invariant.renewing up was sub n k al rep ss ea dis tall big);
    }

pub returns : goal.returns
returns g c =
    let before = c.args.recogniser.now in
    let mode = c.args.mode in
    let way = c.args.way.now in
    let taken = c.in_ok-taken.ensures.value in
    let done = length c.loop-step.yielded in
    let few = taken.room in
    let all = step_end way c.in_ok-taken.field-0.now taken done (YieldsList-end (YieldsList-from_rev_slice {s = c.into_iter-step-iterator.result} c.in_ok-taken.field-0.now cc) c.loop-step.yielded _ c.loop-step.yielded_by _ _ c.in-None.is c.next.ensures.steps).1 in
    record {
      value = λ up was sub n k al rep ss ea dis tall big deep. renew_end (g.R.Recogniser.meaning before) (Due mode (g.R.Recogniser.orderly before)) c.args.cells.now up was sub n k way.steps c.loop-step.cells c.loop-step.top (way.depth - done) (omega arith) (c.loop-step.invariant.renewing up was sub n k al rep ss ea dis tall big);
      asks = costs_more mode (2 * done) (2 * way.depth) before c.loop-step.recogniser (omega arith) c.loop-step.invariant.asked;
      most = costs_more mode (2 * done) 48 before c.loop-step.recogniser (omega arith) c.loop-step.invariant.asked;
    }
