use Rattle.whole.proofs.Duplicates.{GoingAll}
use Rattle.whole.proofs.copying.copy_rows.Given as goal

abbrev pub invariant-loop-done : goal.invariant-loop-done
invariant-loop-done g l = GoingAll l.initial.cells l.cells l.pile l.initial.rest.first l.root l.rows l.rest.first l.done
