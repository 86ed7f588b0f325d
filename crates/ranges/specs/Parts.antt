-- The rows at an end of a tree, and the row of a range that stands highest.
use Rattle.std.specs.Prelude.{◌≡◌, ℕ, ◌*◌, ◌<◌, ◌≤◌, List, ◌∷◌, ◌++◌, take, drop, Some, Option}
use Rattle.rows.specs.declared.kind.Kind.{Kind}
use Rattle.monoid.specs.Meaning.{Meaning}
use Rattle.monoid.specs.Words.{Word, image_of}
use Rattle.cells.specs.declared.cell.Cell.{Cell}
use Rattle.cells.specs.Trees.{Tree, node, size, height, rows, Stands}
use Rattle.cells.specs.Truth.{True}
use Rattle.cells.specs.Rooted.{Rooted}
use Rattle.cells.specs.Counts.{Spent}
use Rattle.ranges.specs.declared.end.End.{End}
use Rattle.ranges.specs.declared.end.End.TheVariants.{Front, Back}
use Rattle.ranges.specs.declared.fork.Fork.{Fork}
use Rattle.ranges.specs.Ends.{beside, ending}

-- the cells hold no tree of n rows or more under the root
abbrev pub Never : {E : Type 0} → List (Cell E) → Option ℕ → ℕ → Type 0
Never {E} cells root n = (t : Tree E) → Rooted cells root t → n ≤ size t → ⊥

-- the image of a word and n rows at an end of the tree beside it
abbrev pub TakesEnd : {E : Type 0} → Meaning E → List (Cell E) → End → Option ℕ → ℕ → E → Option E → Type 0
TakesEnd {E} m cells end root n start out = (t : Tree E) → Rooted cells root t → True m t → n ≤ size t → (u : Word) → start ≡ image_of m u → out ≡ Some (image_of m (beside end u (ending end n (rows t))))

-- two products for each cell on the way, whatever the cells hold; so two for each height of a tree
pub record Costs {E : Type 0} (cells : List (Cell E)) (root : Option ℕ) (n : ℕ) (before after : ℕ) : Type 0 where
  pub always : Spent 48 before after
  pub by_height : (t : Tree E) → Rooted cells root t → n ≤ size t → Spent (2 * height t) before after

-- a row of the rows of t from `first` on and before `last`, and how many of these stand on its two sides
pub record Forked {E : Type 0} (cells : List (Cell E)) (t : Tree E) (first last : ℕ) (f : Fork) : Type 0 where
  pub left : Tree E
  pub kind : Kind
  pub product : E
  pub right : Tree E
  pub stands : Stands cells (node left f.place kind product right)
  pub part : drop first (take last (rows t)) ≡ ending Back f.before (rows left) ++ (kind ∷ ending Front f.behind (rows right))
  pub within_left : f.before ≤ size left
  pub within_right : f.behind ≤ size right
  pub low : height (node left f.place kind product right) ≤ height t
  pub truth : (m : Meaning E) → True m t → True m (node left f.place kind product right)

abbrev pub Forks : {E : Type 0} → List (Cell E) → Option ℕ → ℕ → ℕ → Option Fork → Type 0
Forks {E} cells root first last out = (t : Tree E) → Rooted cells root t → first < last → last ≤ size t → (f : Fork) × (out ≡ Some f) × Forked cells t first last f
