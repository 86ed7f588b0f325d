-- The unused cells: a list threaded through their left links.
use Rattle.std.specs.Prelude.{◌≡◌, ℕ, zero, suc, ◌+◌, ◌<◌, ◌≤◌, min, Bool, ◌≢◌, List, [], ◌∷◌, length, Some, None, Option, nat_le, slice_set}
use Rattle.std.specs.List.{slice_get}
use Rattle.cells.specs.declared.cell.Cell.{Cell}
use Rattle.cells.specs.Trees.{here, At}
use Rattle.unused.specs.declared.list.Unused.{Unused}
use Rattle.unused.specs.declared.list.Taken.{Taken}

-- how often a place stands in a list of places
abbrev pub times : ℕ → List ℕ → ℕ
times q [] = 0
times q (i ∷ is) = here q i + times q is

-- from the first, the cells lead through these places in turn
abbrev pub Listed : {E : Type 0} → List (Cell E) → Option ℕ → List ℕ → Type 0
Listed cells first [] = first ≡ None
Listed {E} cells first (i ∷ is) = (c : Cell E) × (first ≡ Some i) × At cells i c × Listed cells c.left is

-- the first place is taken out, if there is one
pub record Takes {E : Type 0} (cells : List (Cell E)) (first : Option ℕ) (out : Option Taken) : Type 0 where
  pub made : (i : ℕ) (is : List ℕ) → Listed cells first (i ∷ is) → (next : Option ℕ) × (out ≡ Some (record { place = i; rest = record { first = next } })) × Listed cells next is
  pub refused : first ≡ None → out ≡ None

-- whether the list has so many places
abbrev pub Suffices : {E : Type 0} → List (Cell E) → Option ℕ → ℕ → Bool → Type 0
Suffices cells first n out = (is : List ℕ) → Listed cells first is → out ≡ nat_le n (length is)

-- a cell before the unused ones
abbrev pub threaded : {E : Type 0} → Option ℕ → Cell E → Cell E
threaded first c = record { kind = c.kind; left = first; right = c.right; height = c.height; size = c.size; product = c.product }

-- the place i has come before the list, and the cells x have become y
pub record Threads {E : Type 0} (x y : List (Cell E)) (first : Option ℕ) (i : ℕ) : Type 0 where
  pub after : (c : Cell E) → At x i c → y ≡ slice_set x i (threaded first c)
  pub listed : (is : List ℕ) → Listed x first is → times i is ≡ 0 → Listed y (Some i) (i ∷ is)
  pub kept : (q : ℕ) → q ≢ i → slice_get y q ≡ slice_get x q

-- the place i is given back, if its cell was handed over
pub record Gives {E : Type 0} (x y : List (Cell E)) (first : Option ℕ) (i : ℕ) (out : Option Unused) : Type 0 where
  pub made : i < length x → (out ≡ Some (record { first = Some i })) × Threads x y first i
  pub refused : length x ≤ i → (out ≡ None) × (y ≡ x)

-- n - 1 down to 0
abbrev pub down_from : ℕ → List ℕ
down_from zero = []
down_from (suc n) = n ∷ down_from n

-- how many of the cells are put to use
abbrev pub capacity_of : {E : Type 0} → List (Cell E) → ℕ
capacity_of cells = min (length cells) 4096

-- all cells within the capacity are unused, and the others are as they were
pub record Prepares {E : Type 0} (x y : List (Cell E)) (first : Option ℕ) : Type 0 where
  pub listed : Listed y first (down_from (capacity_of x))
  pub once : (q : ℕ) → q < capacity_of x → times q (down_from (capacity_of x)) ≡ 1
  pub beyond : (q : ℕ) → capacity_of x ≤ q → (times q (down_from (capacity_of x)) ≡ 0) × (slice_get y q ≡ slice_get x q)
