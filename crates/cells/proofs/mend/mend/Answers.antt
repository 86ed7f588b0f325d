use Rattle.cells.specs.Asking.{Due}
use Rattle.cells.proofs.Asking.{due_order}
use Rattle.cells.proofs.Mending.{mended}
use Rattle.cells.proofs.mend.mend.Goals as goal

pub returns-clause-value : goal.returns-clause-value
returns-clause-value g c =
    let recogniser = c.args.recogniser.now in
    let order = g.R.Recogniser.orderly recogniser in
    mended (g.R.Recogniser.meaning recogniser) (Due c.args.mode order) order c.args.cells.now c.put.new.cells c.args.row c.args.links c.unit-unit.result c.in_ok-below.below c.in_ok-above.above c.refresh-product.result c.cell_over.result (due_order c.args.mode) (g.met.R.Recogniser.lawful recogniser) c.unit-unit.ensures.value c.in_ok-below.ensures.value c.in_ok-above.ensures.value c.refresh-product.ensures.value c.cell_over.ensures.value c.put.ensures.after
