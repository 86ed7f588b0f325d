use Rattle.std.proofs.Common.{arith}
use Rattle.cells.specs.Asking.{Due}
use Rattle.cells.proofs.Asking.{costs_more}
use Rattle.climb.proofs.Joining.{join_straight, join_restructured}
use Rattle.climb.proofs.join.join.Goals as goal

pub returns-in-Straight : goal.returns-in-Straight
returns-in-Straight g c =
    let before = c.args.recogniser.now in
    let mode = c.args.mode in
    record {
      value = join_straight (g.R.Recogniser.meaning before) (Due mode (g.R.Recogniser.orderly before)) c.args.cells.now c.mend.new.cells c.args.row c.args.links.left c.args.links.right c.mend.result c.in_ok-choose.field-0 c.in-Straight.is c.in_ok-choose.ensures.value c.mend.ensures.value;
      asks = costs_more mode 2 6 before c.mend.new.recogniser (omega arith) c.mend.ensures.asks;
    }

pub returns-in-Restructured : goal.returns-in-Restructured
returns-in-Restructured g c =
    let before = c.args.recogniser.now in
    let mode = c.args.mode in
    record {
      value = join_restructured (g.R.Recogniser.meaning before) (Due mode (g.R.Recogniser.orderly before)) c.args.cells.now c.restructure.new.cells c.args.row c.args.links.left c.args.links.right c.restructure.result c.in_ok-choose.field-0 c.in-Restructured.triple c.in-Restructured.is c.in_ok-choose.ensures.value c.restructure.ensures.value;
      asks = c.restructure.ensures.asks;
    }
