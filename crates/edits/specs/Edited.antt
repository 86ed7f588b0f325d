-- What every edit of a sheet does to its tree and to the cells.
use Rattle.std.specs.Prelude.{◌≡◌, ℕ, ◌+◌, ◌*◌, ◌^◌, ◌<◌, ◌≤◌, max, true, List, length, Option}
use Rattle.std.specs.List.{slice_get}
use Rattle.monoid.specs.Meaning.{Meaning}
use Rattle.monoid.specs.Words.{Word}
use Rattle.cells.specs.declared.cell.Cell.{Cell}
use Rattle.cells.specs.declared.mode.Mode.{Mode}
use Rattle.cells.specs.Trees.{Tree, leaf, node, link, rows, size, height, Balanced, count, Distinct, Stands}
use Rattle.cells.specs.Truth.{True}
use Rattle.cells.specs.Counts.{Spent}
use Rattle.cells.specs.Asking.{cost}
use Rattle.heights.specs.Heights.{highest}

-- the cells hold the balanced tree under the root
pub record Sheet {E : Type 0} (x : List (Cell E)) (root : Option ℕ) (t : Tree E) : Type 0 where
  pub stands : Stands x t
  pub top : root ≡ link t
  pub distinct : Distinct t
  pub balanced : Balanced t
  pub few : size t < 2 ^ 16

-- every stored product is sound
abbrev pub AllSound : {E : Type 0} → Meaning E → Tree E → Type 0
AllSound m leaf = Unit {0}
AllSound m (node l i k p r) = (m.sound p ≡ true) × AllSound m l × AllSound m r

-- the products that an edit of a tree may ask for
abbrev pub dearest : {E : Type 0} → Tree E → ℕ
dearest t = 8 * height t + 8

-- the same by how many rows there are, of which a balanced tree is no higher than H(n)
abbrev pub dearest_of : ℕ → ℕ
dearest_of n = 8 * highest n + 8

-- the tree t of the cells x has become the tree u of the cells y, with these rows; places that it does not touch hold
-- what they held, and so every tree apart from it stands as it stood
pub record Edited {E : Type 0} (m : Meaning E) (due : Type 0) (mode : Mode) (told tells : ℕ) (x y : List (Cell E)) (touched : ℕ → ℕ) (t : Tree E) (word : Word) (u : Tree E) : Type 0 where
  pub sheet : Sheet y (link u) u
  pub same_rows : rows u ≡ word
  pub truth : due → True m t → True m u
  pub sound : due → True m t → AllSound m u
  pub no_higher : height u ≤ height t + 1
  pub no_lower : height t ≤ height u + 1
  pub kept : (q : ℕ) → touched q ≡ 0 → slice_get y q ≡ slice_get x q
  pub others : (o : Tree E) → ((q : ℕ) → count q o + touched q ≤ 1) → Stands x o → Stands y o
  pub long : length y ≡ length x
  pub counted : Spent (cost mode (dearest t)) told tells
  pub by_rows : Balanced t → Spent (cost mode (dearest_of (max (size t) (size u)))) told tells
