-- When cells hold a tree under a root, and what is stored there of its stretch.
use Rattle.std.specs.Prelude.{◌≡◌, ℕ, ◌≤◌, List, Some, Option}
use Rattle.cells.specs.declared.cell.Cell.{Cell}
use Rattle.cells.specs.declared.stretch.Stretch.{Stretch}
use Rattle.cells.specs.Descents.{most_depth}
use Rattle.cells.specs.Trees.{Tree, leaf, node, link, size, height, Stands}

-- the cells hold the tree under the root, and a walk down fits the most depth
pub record Rooted {E : Type 0} (cells : List (Cell E)) (root : Option ℕ) (t : Tree E) : Type 0 where
  pub stands : Stands cells t
  pub top : root ≡ link t
  pub low : height t ≤ most_depth

-- what the root stores, or the unit that was handed over where there is no row
abbrev pub stored : {E : Type 0} → E → Tree E → E
stored unit leaf = unit
stored unit (node l i k p r) = p

abbrev pub stretch : {E : Type 0} → E → Tree E → Stretch E
stretch unit t = record { height = height t; size = size t; product = stored unit t }

-- the rows, and all that is stored, of the tree under a root
abbrev pub SizeAt : {E : Type 0} → List (Cell E) → Option ℕ → Option ℕ → Type 0
SizeAt {E} cells root out = (t : Tree E) → Stands cells t → root ≡ link t → out ≡ Some (size t)

abbrev pub StretchAt : {E : Type 0} → List (Cell E) → Option ℕ → E → Option (Stretch E) → Type 0
StretchAt {E} cells root unit out = (t : Tree E) → Stands cells t → root ≡ link t → out ≡ Some (stretch unit t)
