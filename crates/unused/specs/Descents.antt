-- How deep the freeing of a tree goes on any cells: each side is stored as lower than its row, and the root as no higher than a walk is deep.
use Rattle.std.specs.Prelude.{◌≡◌, ℕ, ◌-◌, Bool, true, false, ◌&&◌, List, ◌∷◌, Some, None, Option, nat_le, nat_lt}
use Rattle.std.specs.List.{slice_get}
use Rattle.cells.specs.declared.cell.Cell.{Cell}
use Rattle.cells.specs.Descents.{most_depth}
use Rattle.unused.specs.declared.list.Unused.{Unused}
use Rattle.unused.specs.declared.pile.Pile.{Pile}
use Rattle.unused.specs.Piles.{tops}

abbrev pub low_cell : {E : Type 0} → Option (Cell E) → ℕ → Bool
low_cell None most = false
low_cell (Some c) most = nat_lt 0 c.height && nat_le c.height most

-- the cell at a link, if there is one, stores a height from 1 to so many
abbrev pub low : {E : Type 0} → List (Cell E) → Option ℕ → ℕ → Bool
low cells None most = true
low cells (Some place) most = low_cell (slice_get cells place) most

-- both sides of a row store lower heights than it does
abbrev pub falling : {E : Type 0} → List (Cell E) → Cell E → Bool
falling cells c = low cells c.left (c.height - 1) && low cells c.right (c.height - 1)

-- a row whose sides do not fall is not given back, and nothing is written
abbrev pub StaysSteep : {E : Type 0} → List (Cell E) → List (Cell E) → Pile → Option Unused → Type 0
StaysSteep {E} x y before out = (i : ℕ) (is : List ℕ) (c : Cell E) → tops before ≡ i ∷ is → slice_get x i ≡ Some c → falling x c ≡ false → (out ≡ None) × (y ≡ x)

-- a root that is higher than a walk is deep is refused, and nothing is written
abbrev pub StaysHigh : {E : Type 0} → List (Cell E) → List (Cell E) → Option ℕ → Option Unused → Type 0
StaysHigh x y root out = low x root most_depth ≡ false → (out ≡ None) × (y ≡ x)
