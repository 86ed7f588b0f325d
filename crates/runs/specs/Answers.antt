-- What working a line does to the book and answers.
use Rattle.std.specs.Prelude.{◌≡◌, ℕ, List, Some, None, Ok, Err, Option, Result}
use Rattle.monoid.specs.Meaning.{Meaning}
use Rattle.monoid.specs.declared.lamps.Lamps.{Lamps}
use Rattle.plain.specs.declared.call.Call.{Call}
use Rattle.plain.specs.declared.refusal.Refusal.{Refusal}
use Rattle.records.specs.declared.records.Records.{Records}
use Rattle.cells.specs.declared.cell.Cell.{Cell}
use Rattle.calls.specs.declared.outcome.Outcome.{Outcome}
use Rattle.calls.specs.Calls.{Called}
use Rattle.calls.specs.Runs.{GoesOn}
use Rattle.script.specs.declared.fault.Fault.{Fault}
use Rattle.script.specs.declared.fault.Cause.TheVariants.{Refused}
use Rattle.script.specs.Faults.{fault}

-- the lamps of an outcome; its refusal as a fault of the line
abbrev pub lamps_or_refusal : ℕ → Option Refusal → Lamps → Result Lamps Fault
lamps_or_refusal line None lamps = Ok lamps
lamps_or_refusal line (Some refusal) lamps = Err (fault (Refused refusal) line 0)

-- a fault changes nothing and is answered as it is; a call is made on the book
abbrev pub LineWorked : {S E : Type 0} → (S → Meaning E) → (S → Type 0) → (S → ℕ) → Records → Records → List (Cell E) → List (Cell E) → S → S → Result Call Fault → ℕ → Result Lamps Fault → Type 0
LineWorked meaning orderly tally b b' x y s s' (Err e) line r = (r ≡ Err e) × (b' ≡ b) × (y ≡ x) × (s' ≡ s)
LineWorked meaning orderly tally b b' x y s s' (Ok call) line r =
    (outcome : Outcome)
    × (r ≡ lamps_or_refusal line outcome.refusal outcome.lamps)
    × Called meaning orderly tally b b' x y s s' call outcome
    × GoesOn meaning orderly tally b b' x y s s' call outcome
