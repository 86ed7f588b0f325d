use Rattle.std.proofs.Common.{◌-◌}
use Rattle.unused.proofs.Threading.{FindingAll}
use Rattle.unused.proofs.list.enough_unused.Given as goal

abbrev pub invariant-loop : goal.invariant-loop
invariant-loop g l = FindingAll l.cells l.initial.rest.first l.number l.rest.first (l.number - l.counter)
