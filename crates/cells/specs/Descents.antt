-- Walks down from a link, on any cells: how deep one goes at the most, and what it answers.
use Rattle.std.specs.Prelude.{ℕ, zero, suc, List, Some, None, Option}
use Rattle.std.specs.List.{slice_get}
use Rattle.std.specs.Option.{option_map}
use Rattle.cells.specs.declared.cell.Cell.{Cell}

-- how many cells a walk passes at the most
abbrev pub most_depth : ℕ
most_depth = 24

-- what a walk does where it stands: it goes on, or it ends with an answer or with none
pub data Move (S A : Type 0) : Type 0 where
  on : S → Move S A
  ends : Option A → Move S A

-- what is missing ends a walk with no answer
abbrev pub needs : {X S A : Type 0} → Option X → (X → Move S A) → Move S A
needs None f = ends None
needs (Some x) f = f x

abbrev pub answer : {S A : Type 0} → (S → Option A) → Move S A → Option A
answer further (on s) = further s
answer further (ends out) = out

-- what a walk answers that makes n moves at the most: none, where it has not ended by then
unfoldable pub walk : {S A : Type 0} → (S → Move S A) → ℕ → S → Option A
walk move zero s = None
walk move (suc n) s = answer (walk move n) (move s)

-- how many rows are stored under a link; none where its cell was not handed over
abbrev pub stored_size : {E : Type 0} → List (Cell E) → Option ℕ → Option ℕ
stored_size cells None = Some 0
stored_size cells (Some i) = option_map (λ (c : Cell _). c.size) (slice_get cells i)
