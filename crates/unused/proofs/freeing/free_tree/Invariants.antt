use Rattle.std.proofs.Common.{ℕ, ◌-◌, Option}
use Rattle.unused.proofs.Emptying.{GoingAll}
use Rattle.unused.proofs.freeing.free_tree.Given as goal

abbrev pub invariant-loop : goal.invariant-loop
invariant-loop g l =
    (root : Option ℕ)
    → GoingAll l.initial.cells l.initial.cells l.initial.pile l.initial.last.first root l.initial.last.first l.rows
    → GoingAll l.initial.cells l.cells l.pile l.initial.last.first root l.last.first (l.rows - l.counter)
