use Rattle.whole.proofs.Descending.{Sought}
use Rattle.whole.proofs.Seeking.{SeekingAll}
use Rattle.whole.proofs.ranks.find_ranked.Given as goal

abbrev pub invariant-loop : goal.invariant-loop
invariant-loop g l =
    SeekingAll l.cells l.initial.at l.initial.rest l.at l.rest l.counter
    × Sought l.cells l.initial.at l.initial.rest l.counter l.at l.rest
