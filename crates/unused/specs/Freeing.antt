-- A tree whose cells are given back one by one.
use Rattle.std.specs.Prelude.{◌≡◌, ℕ, ◌+◌, ◌<◌, ◌≤◌, List, [], ◌∷◌, length, Some, Option}
use Rattle.std.specs.List.{slice_get}
use Rattle.cells.specs.declared.cell.Cell.{Cell}
use Rattle.cells.specs.Descents.{most_depth}
use Rattle.cells.specs.Trees.{Tree, link, size, height, count, Stands}
use Rattle.cells.specs.Rooted.{Rooted}
use Rattle.unused.specs.declared.list.Unused.{Unused}
use Rattle.unused.specs.declared.pile.Pile.{Pile}
use Rattle.unused.specs.Listed.{times, Listed}
use Rattle.unused.specs.Piles.{tops, above}

-- a measure of several trees together
abbrev pub sum : {E : Type 0} → (Tree E → ℕ) → List (Tree E) → ℕ
sum f [] = 0
sum f (t ∷ ts) = f t + sum f ts

-- the places of the roots of those trees that have a row
abbrev pub roots : {E : Type 0} → List (Tree E) → List ℕ
roots [] = []
roots (t ∷ ts) = above (link t) (roots ts)

-- each tree is low enough for its walk to fit over those below it
abbrev pub Low : {E : Type 0} → List (Tree E) → Type 0
Low [] = Unit {0}
Low (t ∷ ts) = (height t + length (roots ts) ≤ most_depth) × Low ts

abbrev pub Stood : {E : Type 0} → List (Cell E) → List (Tree E) → Type 0
Stood cells [] = Unit {0}
Stood cells (t ∷ ts) = Stands cells t × Stood cells ts

-- the pile holds the roots of these trees, the list these places, and all are apart
pub record Freeing {E : Type 0} (cells : List (Cell E)) (p : Pile) (first : Option ℕ) (ts : List (Tree E)) (is : List ℕ) : Type 0 where
  pub piled : tops p ≡ roots ts
  pub low : Low ts
  pub stood : Stood cells ts
  pub listed : Listed cells first is
  pub apart : (q : ℕ) → sum (count q) ts + times q is ≤ 1

-- one row fewer in the trees, and its place in the list
pub record FreedNext {E : Type 0} (x y : List (Cell E)) (after : Pile) (ts : List (Tree E)) (is : List ℕ) (out : Option Unused) : Type 0 where
  pub next : Option ℕ
  pub trees : List (Tree E)
  pub places : List ℕ
  pub given : out ≡ Some (record { first = next })
  pub freeing : Freeing y after next trees places
  pub counts : (q : ℕ) → sum (count q) trees + times q places ≡ sum (count q) ts + times q is
  pub among : (q : ℕ) → sum (count q) trees ≤ sum (count q) ts
  pub fewer : sum size trees + 1 ≡ sum size ts
  pub kept : (q : ℕ) → sum (count q) ts ≡ 0 → slice_get y q ≡ slice_get x q

abbrev pub FreesNext : {E : Type 0} → List (Cell E) → List (Cell E) → Pile → Pile → Option ℕ → Option Unused → Type 0
FreesNext {E} x y before after first out = (ts : List (Tree E)) (is : List ℕ) → Freeing x before first ts is → 0 < sum size ts → FreedNext x y after ts is out

-- the places of t have come to the list, each once; every other tree keeps its rows and products, and every other cell is as it was
pub record Freed {E : Type 0} (x y : List (Cell E)) (t : Tree E) (is : List ℕ) (out : Option Unused) : Type 0 where
  pub next : Option ℕ
  pub places : List ℕ
  pub given : out ≡ Some (record { first = next })
  pub listed : Listed y next places
  pub counts : (q : ℕ) → times q places ≡ count q t + times q is
  pub others : (v : Tree E) → Stands x v → ((q : ℕ) → count q v + count q t ≤ 1) → Stands y v
  pub kept : (q : ℕ) → count q t ≡ 0 → slice_get y q ≡ slice_get x q

-- a tree under the root and the unused cells from the first on, apart
pub record Given {E : Type 0} (cells : List (Cell E)) (first root : Option ℕ) (t : Tree E) (is : List ℕ) : Type 0 where
  pub rooted : Rooted cells root t
  pub listed : Listed cells first is
  pub apart : (q : ℕ) → count q t + times q is ≤ 1

abbrev pub Frees : {E : Type 0} → List (Cell E) → List (Cell E) → Option ℕ → Option ℕ → Option Unused → Type 0
Frees {E} x y first root out = (t : Tree E) (is : List ℕ) → Given x first root t is → Freed x y t is out
