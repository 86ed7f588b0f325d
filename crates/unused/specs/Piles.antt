-- A pile of places, as many as a walk is deep at the most, the last put there on top.
use Rattle.std.specs.Prelude.{◌≡◌, ℕ, zero, suc, ◌<◌, ◌≤◌, List, [], ◌∷◌, length, Some, None, Option, slice_index}
use Rattle.cells.specs.Descents.{most_depth}
use Rattle.unused.specs.declared.pile.Pile.{Pile}

-- the first n of a list of places, the last of them first
abbrev pub backwards : List ℕ → ℕ → List ℕ
backwards places zero = []
backwards places (suc n) = slice_index places n ∷ backwards places n

-- what lies on the pile, from the top
abbrev pub tops : Pile → List ℕ
tops p = backwards p.places p.depth

-- a place on top, if there is one
abbrev pub above : Option ℕ → List ℕ → List ℕ
above None is = is
above (Some i) is = i ∷ is

-- it is put there where there is room
pub record Pushes (before after : Pile) (at : Option ℕ) (r : Option (Unit {0})) : Type 0 where
  pub made : length (above at (tops before)) ≤ most_depth → (r ≡ Some tt) × (tops after ≡ above at (tops before))
  pub refused : most_depth < length (above at (tops before)) → (r ≡ None) × (tops after ≡ tops before)

-- the top is taken off where there is one
pub record Pops (before after : Pile) (r : Option ℕ) : Type 0 where
  pub made : (i : ℕ) (is : List ℕ) → tops before ≡ i ∷ is → (r ≡ Some i) × (tops after ≡ is)
  pub refused : tops before ≡ [] → (r ≡ None) × (tops after ≡ [])
