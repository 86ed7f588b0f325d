-- The rows of a tree by rank: their order, counted from 1, where each comes after both its sides.
use Rattle.std.specs.Prelude.{◌≡◌, ℕ, ◌+◌, ◌-◌, ◌<◌, ◌≤◌, ◌⊎◌, List, Some, Option}
use Rattle.cells.specs.declared.cell.Cell.{Cell}
use Rattle.cells.specs.Trees.{Tree, leaf, node, size}
use Rattle.cells.specs.Rooted.{Rooted}

-- the row of rank n is at the place j: the left side has the first ranks, the right side the next, the row itself the last
abbrev pub Ranked : {E : Type 0} → Tree E → ℕ → ℕ → Type 0
Ranked leaf n j = ⊥
Ranked (node l i k p r) n j = ((n ≤ size l) × Ranked l n j) ⊎ (((size l < n) × (n ≤ size l + size r) × Ranked r (n - size l) j) ⊎ ((n ≡ size l + size r + 1) × (j ≡ i)))

abbrev pub FindsRanked : {E : Type 0} → List (Cell E) → Option ℕ → ℕ → Option ℕ → Type 0
FindsRanked {E} cells root n out = (t : Tree E) → Rooted cells root t → 0 < n → n ≤ size t → (j : ℕ) × (out ≡ Some j) × Ranked t n j
