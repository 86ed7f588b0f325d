use Rattle.cells.specs.Asking.{Due, cost}
use Rattle.cells.proofs.Asking.{asks_none}
use Rattle.edits.proofs.Renewing.{mends_linked, freshen_no_cell, freshened}
use Rattle.edits.proofs.replace.freshen.Goals as goal

pub returns-in_err-cell : goal.returns-in_err-cell
returns-in_err-cell g c =
    let before = c.args.recogniser.now in
    let mode = c.args.mode in
    let x = c.args.cells.now in
    record {
      value = freshen_no_cell (g.R.Recogniser.meaning before) (Due mode (g.R.Recogniser.orderly before)) x x c.args.place c.from_residual.result c.in_err-cell.ensures.value;
      asks = asks_none (cost mode 2) before;
    }

pub returns : goal.returns
returns g c =
    let before = c.args.recogniser.now in
    let mode = c.args.mode in
    record {
      value = freshened (g.R.Recogniser.meaning before) (Due mode (g.R.Recogniser.orderly before)) c.args.cells.now c.mend.new.cells c.args.place c.mend.result c.in_ok-cell.cell c.in_ok-cell.ensures.value (mends_linked (g.R.Recogniser.meaning before) (Due mode (g.R.Recogniser.orderly before)) c.args.cells.now c.mend.new.cells _ c.in_ok-cell.cell c.links.result c.mend.result c.links.ensures.value c.mend.ensures.value);
      asks = c.mend.ensures.asks;
    }
