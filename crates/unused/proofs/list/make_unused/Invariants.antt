use Rattle.unused.proofs.Threading.{Threading}
use Rattle.unused.proofs.list.make_unused.Given as goal

abbrev pub invariant-loop-place : goal.invariant-loop-place
invariant-loop-place g l = Threading l.initial.cells l.cells l.unused.first l.place
