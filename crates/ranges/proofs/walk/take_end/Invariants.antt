use Rattle.std.proofs.Common.{◌*◌}
use Rattle.monoid.specs.Asking.{AskedFor}
use Rattle.cells.specs.Counts.{Spent}
use Rattle.ranges.proofs.Descending.{Taking}
use Rattle.ranges.proofs.Taking.{TakingAll}
use Rattle.ranges.proofs.walk.take_end.Given as goal

abbrev pub invariant-loop : goal.invariant-loop
invariant-loop g l =
    let r = g.R.Recogniser in
    let s = l.initial.recogniser in
    AskedFor r.meaning r.orderly r.tally (Spent (2 * l.counter)) s l.recogniser
    × TakingAll (r.meaning s) (r.orderly s) l.cells l.end l.initial.at l.initial.rest l.initial.product l.at l.rest l.counter l.product
    × Taking l.end l.cells l.initial.at l.initial.rest l.counter l.at l.rest
