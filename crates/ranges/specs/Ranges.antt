-- The product of a range of the rows of a tree, and of all of them.
use Rattle.std.specs.Prelude.{◌≡◌, ℕ, ◌+◌, ◌-◌, ◌*◌, ◌≤◌, List, take, drop, Some, Option, ◌≢◌}
use Rattle.monoid.specs.Meaning.{Meaning}
use Rattle.monoid.specs.Words.{Word, image_of}
use Rattle.cells.specs.declared.cell.Cell.{Cell}
use Rattle.cells.specs.Trees.{Tree, size, height, rows, link, Stands, Balanced}
use Rattle.heights.specs.Heights.{highest}
use Rattle.cells.specs.Truth.{True}
use Rattle.cells.specs.Rooted.{Rooted}
use Rattle.cells.specs.Counts.{Spent}

-- the rows from `first` on and before `last`: none where `last` is not above `first`
abbrev pub part : Word → ℕ → ℕ → Word
part w first last = take (last - first) (drop first w)

abbrev pub Ranges : {E : Type 0} → Meaning E → List (Cell E) → Option ℕ → ℕ → ℕ → Option E → Type 0
Ranges {E} m cells root first last out = (t : Tree E) → Rooted cells root t → True m t → last ≤ size t → out ≡ Some (image_of m (part (rows t) first last))

-- the products asked for, whatever the cells hold, and where they hold a tree: by its height, and by how many rows a balanced one has
pub record RangeCosts {E : Type 0} (cells : List (Cell E)) (root : Option ℕ) (last : ℕ) (before after : ℕ) : Type 0 where
  pub always : Spent 96 before after
  pub by_height : (t : Tree E) → Rooted cells root t → last ≤ size t → Spent (4 * height t + 4) before after
  pub by_rows : (t : Tree E) → Rooted cells root t → last ≤ size t → Balanced t → Spent (4 * highest (size t) + 4) before after

-- the product of all rows
abbrev pub Wholes : {E : Type 0} → Meaning E → List (Cell E) → Option ℕ → Option E → Type 0
Wholes {E} m cells root out = (t : Tree E) → Stands cells t → root ≡ link t → True m t → out ≡ Some (image_of m (rows t))

-- the cells hold no tree under the root
abbrev pub NoTree : {E : Type 0} → List (Cell E) → Option ℕ → Type 0
NoTree {E} cells root = (t : Tree E) → Stands cells t → root ≢ link t
