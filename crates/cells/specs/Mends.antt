-- What writing a row between two trees does.
use Rattle.std.specs.Prelude.{◌≡◌, ℕ, ◌+◌, ◌^◌, ◌<◌, max, List, length, Some, Option, slice_set}
use Rattle.rows.specs.declared.kind.Kind.{Kind}
use Rattle.monoid.specs.Meaning.{Meaning}
use Rattle.cells.specs.declared.cell.Cell.{Cell}
use Rattle.cells.specs.declared.links.Links.{Links}
use Rattle.cells.specs.declared.mend.Row.{Row}
use Rattle.cells.specs.declared.stretch.Stretch.{Stretch}
use Rattle.cells.specs.Trees.{Tree, node, link, size, height, cell, Stands}
use Rattle.cells.specs.Truth.{True}

-- the measures of a row over two stretches, and over two trees, fit a cell
abbrev pub Roomy : {E : Type 0} → Stretch E → Stretch E → Type 0
Roomy l r = (max l.height r.height + 1 < 2 ^ 8) × (l.size + r.size + 1 < 2 ^ 16)

abbrev pub Room : {E : Type 0} → Tree E → Tree E → Type 0
Room l r = (max (height l) (height r) + 1 < 2 ^ 8) × (size l + size r + 1 < 2 ^ 16)

-- the cell of a kind between two links, over their stretches
abbrev pub over : {E : Type 0} → Kind → Links → Stretch E → Stretch E → E → Cell E
over k links l r p = record { kind = k; left = links.left; right = links.right; height = max l.height r.height + 1; size = l.size + r.size + 1; product = p }

-- the row over the trees l and r
abbrev pub row_over : {E : Type 0} → Tree E → Row → E → Tree E → Tree E
row_over l row p r = node l row.place row.kind p r

-- what the row stores is true where that is owed and the trees are
abbrev pub Refreshed : {E : Type 0} → Meaning E → Type 0 → Tree E → Row → E → Tree E → Type 0
Refreshed m due l row p r = due → True m l → True m r → True m (row_over l row p r)

-- the cells y are the cells x with that row written
pub record Mended {E : Type 0} (m : Meaning E) (due : Type 0) (x y : List (Cell E)) (row : Row) (l r : Tree E) : Type 0 where
  pub stored : E
  pub after : y ≡ slice_set x row.place (cell l row.kind stored r)
  pub fresh : Refreshed m due l row stored r

abbrev pub Mends : {E : Type 0} → Meaning E → Type 0 → List (Cell E) → List (Cell E) → Row → Option ℕ → Option ℕ → Option ℕ → Type 0
Mends {E} m due x y row a b out = (l r : Tree E) → Stands x l → Stands x r → a ≡ link l → b ≡ link r → Room l r → row.place < length x → (out ≡ Some row.place) × Mended m due x y row l r
