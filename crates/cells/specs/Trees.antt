-- The trees of rows that cells hold: their rows, their measures, and where they stand.
use Rattle.std.specs.Prelude.{◌≡◌, ℕ, ◌+◌, ◌≤◌, max, cond, List, [], ◌∷◌, ◌++◌, Some, None, Option, ◌==◌}
use Rattle.std.specs.List.{slice_get}
use Rattle.rows.specs.declared.kind.Kind.{Kind}
use Rattle.monoid.specs.Words.{Word}
use Rattle.cells.specs.declared.cell.Cell.{Cell}

-- a row with the rows before it and the rows after it: the left side, its place, its kind, its stored product, the right side
pub data Tree (E : Type 0) : Type 0 where
  leaf : Tree E
  node : Tree E → ℕ → Kind → E → Tree E → Tree E

-- the place of the root
abbrev pub link : {E : Type 0} → Tree E → Option ℕ
link leaf = None
link (node l i k p r) = Some i

abbrev pub rows : {E : Type 0} → Tree E → Word
rows leaf = []
rows (node l i k p r) = rows l ++ (k ∷ rows r)

abbrev pub size : {E : Type 0} → Tree E → ℕ
size leaf = 0
size (node l i k p r) = size l + size r + 1

abbrev pub height : {E : Type 0} → Tree E → ℕ
height leaf = 0
height (node l i k p r) = max (height l) (height r) + 1

-- the heights of two sides differ by at most one
abbrev pub Even : {E : Type 0} → Tree E → Tree E → Type 0
Even l r = (height l ≤ height r + 1) × (height r ≤ height l + 1)

-- so they do at every row
abbrev pub Balanced : {E : Type 0} → Tree E → Type 0
Balanced leaf = Unit {0}
Balanced (node l i k p r) = Even l r × Balanced l × Balanced r

-- how often a place stands in a tree, and that none stands there twice
abbrev pub here : ℕ → ℕ → ℕ
here q i = cond (q == i) 1 0

abbrev pub count : {E : Type 0} → ℕ → Tree E → ℕ
count q leaf = 0
count q (node l i k p r) = count q l + here q i + count q r

abbrev pub Distinct : {E : Type 0} → Tree E → Type 0
Distinct t = (q : ℕ) → count q t ≤ 1

-- the cell of a row between two sides
abbrev pub cell : {E : Type 0} → Tree E → Kind → E → Tree E → Cell E
cell l k p r = record { kind = k; left = link l; right = link r; height = max (height l) (height r) + 1; size = size l + size r + 1; product = p }

-- the cell at a place
abbrev pub At : {E : Type 0} → List (Cell E) → ℕ → Cell E → Type 0
At cells i c = slice_get cells i ≡ Some c

-- the cells hold the tree
abbrev pub Stands : {E : Type 0} → List (Cell E) → Tree E → Type 0
Stands cells leaf = Unit {0}
Stands cells (node l i k p r) = At cells i (cell l k p r) × Stands cells l × Stands cells r
