use Rattle.std.proofs.Common.{◌*◌}
use Rattle.monoid.specs.Asking.{AskedFor}
use Rattle.cells.specs.Counts.{Asked}
use Rattle.whole.proofs.Baring.{Reached}
use Rattle.whole.proofs.Recomputing.{GoingAll}
use Rattle.whole.proofs.renewing.recompute.Given as goal

abbrev pub invariant-loop-done : goal.invariant-loop-done
invariant-loop-done g l =
    let r = g.R.Recogniser in
    let s = l.initial.recogniser in
    AskedFor r.meaning r.orderly r.tally (Asked (2 * l.done)) s l.recogniser
    × GoingAll (r.meaning s) (r.orderly s) l.initial.cells l.cells l.root l.done
    × Reached l.initial.cells l.cells l.root l.done
