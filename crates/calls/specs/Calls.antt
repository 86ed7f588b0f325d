-- What every call promises: of the records, whatever the cells hold and the recogniser is; and of a sound book.
use Rattle.std.specs.Prelude.{◌≡◌, ℕ, ◌+◌, ◌%◌, ◌^◌, Bool, true, ◌⊎◌, List, drop, Some, None, MatchOption}
use Rattle.monoid.specs.Meaning.{Meaning}
use Rattle.monoid.specs.Lamps.{no_lamps}
use Rattle.plain.specs.declared.call.Call.{Call}
use Rattle.plain.specs.declared.refusal.Refusal.{Refusal}
use Rattle.plain.specs.declared.refusal.Refusal.TheVariants.{BrokenCells}
use Rattle.plain.specs.Questions.{refusal_of}
use Rattle.plain.specs.Steps.{after}
use Rattle.plain.specs.Plain.{counts}
use Rattle.records.specs.declared.records.Records.{Records}
use Rattle.records.specs.Views.{outline_of, refusal_by}
use Rattle.records.specs.Changes.{Committed}
use Rattle.cells.specs.declared.cell.Cell.{Cell}
use Rattle.changes.specs.Costs.{AsksNothing}
use Rattle.calls.specs.declared.outcome.Outcome.{Outcome}
use Rattle.calls.specs.Models.{Model}
use Rattle.calls.specs.Sound.{Sound}
use Rattle.calls.specs.Steps.{Step}
use Rattle.calls.specs.Ways.{KeepsCells, KeepsRecords}

-- accepted, and the records are changed as the plain book says; or the cells are broken, and the records are as they were
abbrev pub Accepted : Records → Records → Call → Outcome → Type 0
Accepted b b' call r = ((r.refusal ≡ None) × (outline_of b' ≡ after counts (outline_of b) call)) ⊎ ((r.refusal ≡ Some BrokenCells) × (b' ≡ b) × (r.lamps ≡ no_lamps))

-- from a sound book, one step beside the plain book, to a sound book
abbrev pub Works : {E : Type 0} → Bool → Meaning E → Records → Records → List (Cell E) → List (Cell E) → Call → Outcome → Type 0
Works {E} lawful m b b' x y call r = (before : Model E) → Sound lawful m b x before → (after : Model E) × Step lawful m b.capacity before call r after × Sound lawful m b' y after

-- a call that the plain book refuses changes nothing
pub record Declined {S E : Type 0} (b b' : Records) (x y : List (Cell E)) (s s' : S) (reason : Refusal) (r : Outcome) : Type 0 where
  pub refusal_is : r.refusal ≡ Some reason
  pub records_same : b' ≡ b
  pub cells_same : y ≡ x
  pub recogniser_same : s' ≡ s
  pub lamps_none : r.lamps ≡ no_lamps
  pub no_count : r.count ≡ 0

-- what every call promises, on any cells and of any recogniser
pub record Called {S E : Type 0} (meaning : S → Meaning E) (orderly : S → Type 0) (tally : S → ℕ) (b b' : Records) (x y : List (Cell E)) (s s' : S) (call : Call) (r : Outcome) : Type 0 where
  pub declined : (reason : Refusal) → refusal_by b call ≡ Some reason → Declined b b' x y s s' reason r
  pub accepted : refusal_by b call ≡ None → Accepted b b' call r
  pub capacity : b'.capacity ≡ b.capacity
  -- cells past the capacity are untouched; a call that changes no tree leaves all cells as they are, one that only looks the records too, and one that asks for no product the recogniser
  pub outside : drop b.capacity y ≡ drop b.capacity x
  pub cells_kept : KeepsCells call → y ≡ x
  pub records_kept : KeepsRecords call → b' ≡ b
  pub recogniser_kept : AsksNothing call → s' ≡ s
  pub unasked : AsksNothing call → r.count ≡ 0
  -- the recogniser means what it meant, and the count is the rise of its tally modulo 2^64
  pub same : meaning s' ≡ meaning s
  pub order : orderly s → orderly s'
  pub counted : tally s' ≡ (tally s + r.count) % 2 ^ 64
  -- on a sound book, whose products are true where the recogniser is lawful
  pub works : (lawful : Bool) → (lawful ≡ true → orderly s) → Works lawful (meaning s) b b' x y call r

-- of the records and the outcome alone: the plain book's refusal, with nothing changed; or the records changed as it says, or left where the cells are broken
pub record Answered (b b' : Records) (call : Call) (r : Outcome) : Type 0 where
  pub declined : (reason : Refusal) → refusal_of b.capacity (outline_of b) call ≡ Some reason → (r.refusal ≡ Some reason) × (b' ≡ b) × (r.lamps ≡ no_lamps) × (r.count ≡ 0)
  pub accepted : refusal_of b.capacity (outline_of b) call ≡ None → ((r.refusal ≡ None) × (outline_of b' ≡ after counts (outline_of b) call)) ⊎ ((r.refusal ≡ Some BrokenCells) × (b' ≡ b))

-- a call that changes the records alone: no walk, so no broken cells
pub record Noted (b b' : Records) (call : Call) (r : Outcome) : Type 0 where
  pub refusal_is : r.refusal ≡ refusal_of b.capacity (outline_of b) call
  pub cases : MatchOption r.refusal (Committed b b' call None b.unused) (λ reason. b' ≡ b)
  pub lamps_none : r.lamps ≡ no_lamps
  pub count_none : r.count ≡ 0
