-- A tree copied row by row into unused cells.
use Rattle.std.specs.Prelude.{◌≡◌, ℕ, ◌+◌, ◌<◌, ◌≤◌, List, ◌∷◌, length, Some, None, Option, slice_set}
use Rattle.std.specs.List.{slice_get}
use Rattle.monoid.specs.Meaning.{Meaning}
use Rattle.cells.specs.declared.cell.Cell.{Cell}
use Rattle.cells.specs.Trees.{Tree, leaf, node, link, size, rows, count, Balanced, Stands}
use Rattle.cells.specs.Truth.{True}
use Rattle.cells.specs.Rooted.{Rooted}
use Rattle.unused.specs.declared.list.Taken.{Taken}
use Rattle.unused.specs.declared.pile.Pile.{Pile}
use Rattle.unused.specs.Listed.{times, Listed}
use Rattle.unused.specs.Piles.{tops, above}
use Rattle.unused.specs.Freeing.{Given}
use Rattle.cells.specs.declared.links.Links.{Links}
use Rattle.whole.specs.declared.copying.Copied.{Copied}
use Rattle.whole.specs.Ranks.{Ranked}

-- the same rows and stored products in the same shape, at whatever places
abbrev pub Same : {E : Type 0} → Tree E → Tree E → Type 0
Same leaf leaf = Unit {0}
Same leaf (node l i k p r) = ⊥
Same (node l i k p r) leaf = ⊥
Same (node l i k p r) (node l' i' k' p' r') = Same l l' × (k ≡ k') × (p ≡ p') × Same r r'

-- the copy has the rows and products of t, in places of the list, of which the rest is left; t and every other tree keep theirs
pub record CopyMade {E : Type 0} (x y : List (Cell E)) (t : Tree E) (is : List ℕ) (out : Option Copied) : Type 0 where
  pub copy : Tree E
  pub next : Option ℕ
  pub rest : List ℕ
  pub given : out ≡ Some (record { root = link copy; unused = record { first = next } })
  pub same : Same t copy
  pub word : rows copy ≡ rows t
  pub truth : (m : Meaning E) → True m t → True m copy
  pub balance : Balanced t → Balanced copy
  pub stands : Stands y copy
  pub source : Stands y t
  pub listed : Listed y next rest
  pub counts : (q : ℕ) → count q copy + times q rest ≡ times q is
  pub others : (v : Tree E) → Stands x v → ((q : ℕ) → count q v + times q is ≤ 1) → Stands y v
  pub kept : (q : ℕ) → times q is ≡ 0 → slice_get y q ≡ slice_get x q

-- where too few cells are unused, it refuses and leaves all as it was
pub record Copies {E : Type 0} (x y : List (Cell E)) (first root : Option ℕ) (out : Option Copied) : Type 0 where
  pub made : (t : Tree E) (is : List ℕ) → Given x first root t is → size t ≤ length is → CopyMade x y t is out
  pub refused : (t : Tree E) (is : List ℕ) → Given x first root t is → length is < size t → (out ≡ None) × (y ≡ x)

-- the copy of the rows of a tree, so many of them, where enough cells are unused
abbrev pub CopiesRows : {E : Type 0} → List (Cell E) → List (Cell E) → Option ℕ → Option ℕ → ℕ → Option Copied → Type 0
CopiesRows {E} x y first root n out = (t : Tree E) (is : List ℕ) → Given x first root t is → size t ≡ n → n ≤ length is → CopyMade x y t is out

-- both or neither
abbrev pub Both : Option ℕ → Option ℕ → Type 0
Both None None = Unit {0}
Both None (Some j) = ⊥
Both (Some i) None = ⊥
Both (Some i) (Some j) = Unit {0}

-- the top is taken off where the source has a side
abbrev pub PopsLike : Pile → Pile → Option ℕ → Option (Option ℕ) → Type 0
PopsLike before after side out = (want : Option ℕ) (is : List ℕ) → Both side want → tops before ≡ above want is → (out ≡ Some want) × (tops after ≡ is)

abbrev pub TakesSides : Pile → Pile → Option ℕ → Option ℕ → Option Links → Type 0
TakesSides before after a b out = (l r : Option ℕ) (is : List ℕ) → Both a l → Both b r → tops before ≡ above r (above l is) → (out ≡ Some (record { left = l; right = r })) × (tops after ≡ is)

-- the cell of the row of a rank
abbrev pub OpensRanked : {E : Type 0} → List (Cell E) → Option ℕ → ℕ → Option (Cell E) → Type 0
OpensRanked {E} x root n out = (t : Tree E) → Rooted x root t → 0 < n → n ≤ size t → (j : ℕ) × Ranked t n j × (out ≡ slice_get x j)

-- a cell with other links
abbrev pub relinked : {E : Type 0} → Cell E → Links → Cell E
relinked c s = record { kind = c.kind; left = s.left; right = s.right; height = c.height; size = c.size; product = c.product }

pub record CopyWritten {E : Type 0} (x y : List (Cell E)) (c : Cell E) (s : Links) (i : ℕ) (is : List ℕ) (out : Option Taken) : Type 0 where
  pub next : Option ℕ
  pub given : out ≡ Some (record { place = i; rest = record { first = next } })
  pub listed : Listed x next is
  pub within : i < length x
  pub written : y ≡ slice_set x i (relinked c s)

abbrev pub WritesCopy : {E : Type 0} → List (Cell E) → List (Cell E) → Option ℕ → Cell E → Links → Option Taken → Type 0
WritesCopy {E} x y first c s out = (i : ℕ) (is : List ℕ) → Listed x first (i ∷ is) → CopyWritten x y c s i is out
