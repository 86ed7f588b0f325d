-- A tree whose stored products are computed anew, row by row.
use Rattle.std.specs.Prelude.{◌≡◌, ℕ, ◌+◌, ◌-◌, ◌*◌, ◌<◌, ◌≤◌, true, List, [], ◌∷◌, ◌++◌, Some, Option, slice_set}
use Rattle.std.specs.List.{slice_get}
use Rattle.rows.specs.declared.kind.Kind.{Kind}
use Rattle.monoid.specs.Meaning.{Meaning}
use Rattle.monoid.specs.Words.{Word, image_of}
use Rattle.cells.specs.declared.cell.Cell.{Cell}
use Rattle.cells.specs.Trees.{Tree, leaf, node, size, rows, count, cell, Balanced, Stands, Distinct}
use Rattle.cells.specs.Truth.{True}
use Rattle.cells.specs.Rooted.{Rooted}
use Rattle.cells.specs.Counts.{Asked, Spent}
use Rattle.unused.specs.Listed.{times, Listed}

-- the image of a word, a row behind it and another word behind that
abbrev pub Between : {E : Type 0} → Meaning E → E → Kind → E → E → Type 0
Between m left kind right out = (u v : Word) → left ≡ image_of m u → right ≡ image_of m v → out ≡ image_of m ((u ++ (kind ∷ [])) ++ v)

-- the row at a place stores another product, which is the image of its stretch where those of its sides are true
pub record Refreshed {E : Type 0} (m : Meaning E) (Orderly : Type 0) (x y : List (Cell E)) (i : ℕ) (l : Tree E) (k : Kind) (r : Tree E) (out : Option ℕ) : Type 0 where
  pub product : E
  pub given : out ≡ Some i
  pub after : y ≡ slice_set x i (cell l k product r)
  pub value : Orderly → True m l → True m r → product ≡ image_of m (rows l ++ (k ∷ rows r))

abbrev pub Refreshes : {E : Type 0} → Meaning E → Type 0 → List (Cell E) → List (Cell E) → ℕ → Option ℕ → Type 0
Refreshes {E} m Orderly x y i out = (l : Tree E) (k : Kind) (p : E) (r : Tree E) → Stands x (node l i k p r) → Refreshed m Orderly x y i l k r out

-- the products asked for: two where it is done, and never more
pub record Two (out : Option ℕ) (before after : ℕ) : Type 0 where
  pub made : (j : ℕ) → out ≡ Some j → Asked 2 before after
  pub always : Spent 2 before after

-- the same rows at the same places
abbrev pub Alike : {E : Type 0} → Tree E → Tree E → Type 0
Alike leaf leaf = Unit {0}
Alike leaf (node l i k p r) = ⊥
Alike (node l i k p r) leaf = ⊥
Alike (node l i k p r) (node l' i' k' p' r') = Alike l l' × (i ≡ i') × (k ≡ k') × Alike r r'

-- the same tree, storing the image of each stretch
abbrev pub anew : {E : Type 0} → Meaning E → Tree E → Tree E
anew m leaf = leaf
anew m (node l i k p r) = node (anew m l) i k (image_of m (rows l ++ (k ∷ rows r))) (anew m r)

-- every stored product is sound
abbrev pub Sounds : {E : Type 0} → Meaning E → Tree E → Type 0
Sounds m leaf = Unit {0}
Sounds m (node l i k p r) = (m.sound p ≡ true) × Sounds m l × Sounds m r

-- the products of the first n ranks are true
abbrev pub Done : {E : Type 0} → Meaning E → ℕ → Tree E → Type 0
Done m n leaf = Unit {0}
Done m n (node l i k p r) = Done m n l × Done m (n - size l) r × (size l + size r < n → p ≡ image_of m (rows l ++ (k ∷ rows r)))

-- the row of rank n is refreshed, where those before it are done
pub record Renewed {E : Type 0} (m : Meaning E) (Orderly : Type 0) (x y : List (Cell E)) (d n : ℕ) (u : Tree E) (out : Option ℕ) : Type 0 where
  pub place : ℕ
  pub given : out ≡ Some place
  pub next : Tree E
  pub alike : Alike u next
  pub stands : Stands y next
  pub done : Orderly → Done m d u → Done m n next
  pub kept : (q : ℕ) → count q u ≡ 0 → slice_get y q ≡ slice_get x q

abbrev pub Renews : {E : Type 0} → Meaning E → Type 0 → List (Cell E) → List (Cell E) → Option ℕ → ℕ → Option ℕ → Type 0
Renews {E} m Orderly x y root n out = (u : Tree E) (d : ℕ) → n ≡ d + 1 → n ≤ size u → Rooted x root u → Distinct u → Renewed m Orderly x y d n u out

-- every row of t is refreshed, and in order all its products are then true and sound; every other tree and the unused cells are as they were
pub record Recomputed {E : Type 0} (m : Meaning E) (Orderly : Type 0) (x y : List (Cell E)) (root : Option ℕ) (t : Tree E) (out : Option ℕ) : Type 0 where
  pub given : out ≡ Some (size t)
  pub next : Tree E
  pub alike : Alike t next
  pub word : rows next ≡ rows t
  pub counts : (q : ℕ) → count q next ≡ count q t
  pub balance : Balanced t → Balanced next
  pub rooted : Rooted y root next
  pub value : Orderly → next ≡ anew m t
  pub truth : Orderly → True m next
  pub sound : Orderly → Sounds m next
  pub others : (v : Tree E) → Stands x v → ((q : ℕ) → count q v + count q t ≤ 1) → Stands y v
  pub unused : (first : Option ℕ) (is : List ℕ) → Listed x first is → ((q : ℕ) → times q is + count q t ≤ 1) → Listed y first is
  pub kept : (q : ℕ) → count q t ≡ 0 → slice_get y q ≡ slice_get x q

abbrev pub Recomputes : {E : Type 0} → Meaning E → Type 0 → List (Cell E) → List (Cell E) → Option ℕ → Option ℕ → Type 0
Recomputes {E} m Orderly x y root out = (t : Tree E) → Rooted x root t → Distinct t → Recomputed m Orderly x y root t out

-- two products for each row; on any cells, two for each row that the root stores
pub record RecomputeCosts {E : Type 0} (cells : List (Cell E)) (root : Option ℕ) (before after : ℕ) : Type 0 where
  pub exact : (t : Tree E) → Rooted cells root t → Distinct t → Asked (2 * size t) before after
  pub always : Spent (2 * 65535) before after
