-- What joining two trees around a row gives.
use Rattle.std.specs.Prelude.{◌≡◌, ℕ, ◌+◌, ◌<◌, ◌≤◌, max, List, ◌∷◌, ◌++◌, length, Option}
use Rattle.std.specs.List.{slice_get}
use Rattle.monoid.specs.Meaning.{Meaning}
use Rattle.cells.specs.declared.cell.Cell.{Cell}
use Rattle.cells.specs.declared.mend.Row.{Row}
use Rattle.cells.specs.Trees.{Tree, link, rows, size, height, Even, Balanced, count, here, Stands}
use Rattle.cells.specs.Truth.{True}
use Rattle.cells.specs.Mends.{Room}

-- no place stands twice in the trees and the row
abbrev pub Apart : {E : Type 0} → Tree E → Row → Tree E → Type 0
Apart l row r = (q : ℕ) → count q l + here q row.place + count q r ≤ 1

-- u has the rows of l, the row, and the rows of r, and is balanced where they are and nearly even
pub record Shaped {E : Type 0} (l : Tree E) (row : Row) (r u : Tree E) : Type 0 where
  pub same_rows : rows u ≡ rows l ++ (row.kind ∷ rows r)
  pub wide : size u ≡ size l + size r + 1
  pub high : height u ≤ max (height l) (height r) + 1
  pub places : (q : ℕ) → count q u ≡ count q l + here q row.place + count q r
  pub even : Even l r → height u ≡ max (height l) (height r) + 1
  pub balance : Balanced l → Balanced r → height l ≤ height r + 2 → height r ≤ height l + 2 → Balanced u × (max (height l) (height r) ≤ height u)

-- the cells y hold the tree u, and differ from the cells x at its places only
pub record Written {E : Type 0} (x y : List (Cell E)) (u : Tree E) : Type 0 where
  pub stands : Stands y u
  pub kept : (q : ℕ) → count q u ≡ 0 → slice_get y q ≡ slice_get x q
  pub long : length y ≡ length x

-- the trees l and r, joined around the row in the cells
pub record Joined {E : Type 0} (m : Meaning E) (due : Type 0) (x y : List (Cell E)) (l : Tree E) (row : Row) (r u : Tree E) : Type 0 where
  pub shaped : Shaped l row r u
  pub truth : due → True m l → True m r → True m u
  pub written : Written x y u

abbrev pub Joins : {E : Type 0} → Meaning E → Type 0 → List (Cell E) → List (Cell E) → Row → Option ℕ → Option ℕ → Option ℕ → Type 0
Joins {E} m due x y row a b out = (l r : Tree E) → Stands x l → Stands x r → a ≡ link l → b ≡ link r → Apart l row r → Room l r → row.place < length x → (u : Tree E) × (out ≡ link u) × Joined m due x y l row r u
