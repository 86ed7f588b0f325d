use Rattle.ranges.proofs.Descending.{Searching}
use Rattle.ranges.proofs.Forking.{ForkingAll}
use Rattle.ranges.proofs.fork.find_fork.Given as goal

abbrev pub invariant-loop : goal.invariant-loop
invariant-loop g l =
    ForkingAll l.cells l.initial.at l.first l.last l.at l.from l.to l.counter
    × Searching l.cells l.initial.at l.first l.last l.counter l.at l.from l.to
