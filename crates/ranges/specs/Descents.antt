-- What the walks of a range answer on any cells.
use Rattle.std.specs.Prelude.{ℕ, ◌+◌, ◌-◌, cond, List, Some, None, Option, nat_le}
use Rattle.std.specs.List.{slice_get}
use Rattle.std.specs.Option.{option_and_then}
use Rattle.cells.specs.declared.cell.Cell.{Cell}
use Rattle.cells.specs.Descents.{most_depth, Move, on, ends, needs, walk, stored_size}
use Rattle.ranges.specs.declared.end.End.{End}
use Rattle.ranges.specs.declared.end.End.TheVariants.{Front, Back}
use Rattle.ranges.specs.declared.fork.Fork.{Fork}
use Rattle.ranges.specs.Ends.{near, far}

-- where the walk to the highest row of a range is: the link below, and the rows of the range in its subtree
pub record Search : Type 0 where
  pub at : Option ℕ
  pub from : ℕ
  pub to : ℕ

abbrev pub search_past : {E : Type 0} → Search → ℕ → Cell E → ℕ → Move Search Fork
search_past s place c before =
    cond (nat_le s.to before)
    (on (record { at = c.left; from = s.from; to = s.to }))
    (cond (nat_le s.from before)
    (ends (Some (record { place = place; before = before - s.from; behind = s.to - before - 1 })))
    (on (record { at = c.right; from = s.from - before - 1; to = s.to - before - 1 })))

abbrev pub search : {E : Type 0} → List (Cell E) → Search → Move Search Fork
search cells s = needs s.at (λ place. needs (slice_get cells place) (λ (c : Cell _). needs (stored_size cells c.left) (search_past s place c)))

abbrev pub forked : {E : Type 0} → List (Cell E) → Option ℕ → ℕ → ℕ → Option Fork
forked cells root first last = walk (search cells) most_depth (record { at = root; from = first; to = last })

-- where the walk past rows at an end is: the link below, and how many are still to be passed
pub record Taker : Type 0 where
  pub at : Option ℕ
  pub rest : ℕ

abbrev pub take_past : {E : Type 0} → End → Taker → Cell E → ℕ → Move Taker (Unit {0})
take_past end s c size =
    cond (nat_le s.rest size)
    (on (record { at = near end c.left c.right; rest = s.rest }))
    (on (record { at = far end c.left c.right; rest = s.rest - size - 1 }))

abbrev pub take_row : {E : Type 0} → End → List (Cell E) → Taker → Option (Cell E) → Move Taker (Unit {0})
take_row end cells s read = needs read (λ (c : Cell _). needs (stored_size cells (near end c.left c.right)) (take_past end s c))

abbrev pub take_at : {E : Type 0} → End → List (Cell E) → Taker → Option ℕ → Move Taker (Unit {0})
take_at end cells s None = ends (Some tt)
take_at end cells s (Some place) = take_row end cells s (slice_get cells place)

abbrev pub taker : {E : Type 0} → End → List (Cell E) → Taker → Move Taker (Unit {0})
taker end cells s = take_at end cells s s.at

-- whether it comes to its end: past the most cells at the most, and nothing below them
abbrev pub taken : {E : Type 0} → End → List (Cell E) → Option ℕ → ℕ → Option (Unit {0})
taken end cells root n = walk (taker end cells) (most_depth + 1) (record { at = root; rest = n })

-- whether all walks of a range come to their ends
abbrev pub taken_both : {E : Type 0} → List (Cell E) → Fork → Cell E → Option (Unit {0})
taken_both cells f c = option_and_then (λ _. taken Front cells c.right f.behind) (taken Back cells c.left f.before)

abbrev pub ranged : {E : Type 0} → List (Cell E) → Option ℕ → ℕ → ℕ → Option (Unit {0})
ranged cells root first last = cond (nat_le last first) (Some tt) (option_and_then (λ (f : Fork). option_and_then (taken_both cells f) (slice_get cells f.place)) (forked cells root first last))
