-- What the walk to the row of a rank answers on any cells.
use Rattle.std.specs.Prelude.{◌≡◌, ℕ, ◌-◌, ◌<◌, ◌≤◌, cond, List, map, Option, Some, None, nat_le, ◌==◌}
use Rattle.std.specs.List.{slice_get}
use Rattle.std.specs.Option.{option_and_then}
use Rattle.cells.specs.declared.cell.Cell.{Cell}
use Rattle.cells.specs.Descents.{most_depth, Move, on, ends, needs, walk, stored_size}

-- where the walk is: the link below, and the rank of the row among those under it
pub record Seeker : Type 0 where
  pub at : Option ℕ
  pub rest : ℕ

-- past a row with so many rows on its left
abbrev pub seek_past : {E : Type 0} → Seeker → Cell E → ℕ → Move Seeker ℕ
seek_past s c before = cond (nat_le s.rest before) (on (record { at = c.left; rest = s.rest })) (on (record { at = c.right; rest = s.rest - before }))

abbrev pub seek_row : {E : Type 0} → List (Cell E) → Seeker → ℕ → Cell E → Move Seeker ℕ
seek_row cells s place c = cond (s.rest == c.size) (ends (Some place)) (needs (stored_size cells c.left) (seek_past s c))

abbrev pub seek : {E : Type 0} → List (Cell E) → Seeker → Move Seeker ℕ
seek cells s = needs s.at (λ place. needs (slice_get cells place) (seek_row cells s place))

abbrev pub ranked : {E : Type 0} → List (Cell E) → Option ℕ → ℕ → Option ℕ
ranked cells root n = walk (seek cells) most_depth (record { at = root; rest = n })

-- the cell of the row of a rank
abbrev pub ranked_cell : {E : Type 0} → List (Cell E) → Option ℕ → ℕ → Option (Cell E)
ranked_cell cells root n = option_and_then (slice_get cells) (ranked cells root n)

-- where the walk to a rank has no answer, its row is neither renewed nor copied, and nothing is written
abbrev pub Unreached : {E A : Type 0} → List (Cell E) → List (Cell E) → Option ℕ → ℕ → Option A → Type 0
Unreached x y root n out = ranked x root n ≡ None → (out ≡ None) × (y ≡ x)

-- a cell but for its product
abbrev pub bare : {E : Type 0} → Cell E → Cell (Unit {0})
bare c = record { kind = c.kind; left = c.left; right = c.right; height = c.height; size = c.size; product = tt }

-- cells as they were but for their products
abbrev pub Bare : {E : Type 0} → List (Cell E) → List (Cell E) → Type 0
Bare x y = map bare y ≡ map bare x

-- where the walk to any of the rows that the root counts has no answer, there is none
abbrev pub UnreachedRow : {E A : Type 0} → List (Cell E) → Option ℕ → Option A → Type 0
UnreachedRow x root out = (rows n : ℕ) → stored_size x root ≡ Some rows → 0 < n → n ≤ rows → ranked x root n ≡ None → out ≡ None
