-- The number of each cause, shared with the refusals of the book, and the cause that a number stands for.
use Rattle.std.specs.Prelude.{ℕ, cond, List, [], ◌∷◌, Some, None, Option, ◌==◌}
use Rattle.plain.specs.Refusals.{refusal_number}
use Rattle.plain.specs.declared.refusal.Refusal.TheVariants.{TagOutOfRange, NoSuchSheet, TagInUse, TooManySheets, NotSettled, NotPaused, RowOutOfRange, NoRoom, BrokenCells}
use Rattle.script.specs.declared.fault.Cause.{Cause}
use Rattle.script.specs.declared.fault.Cause.TheVariants.{LineTooLong, NoCommand, WrongFieldCount, BadNumber, BadKind, Refused}
use Rattle.script.specs.declared.fault.Fault.{Fault}

abbrev pub cause_number : Cause → ℕ
cause_number LineTooLong = 31
cause_number NoCommand = 32
cause_number WrongFieldCount = 33
cause_number BadNumber = 34
cause_number BadKind = 35
cause_number (Refused refusal) = refusal_number refusal

abbrev pub every_cause : List Cause
every_cause =
    LineTooLong ∷ (NoCommand ∷ (WrongFieldCount ∷ (BadNumber ∷ (BadKind
    ∷ (Refused TagOutOfRange ∷ (Refused NoSuchSheet ∷ (Refused TagInUse ∷ (Refused TooManySheets ∷ (Refused NotSettled
    ∷ (Refused NotPaused ∷ (Refused RowOutOfRange ∷ (Refused NoRoom ∷ (Refused BrokenCells ∷ [])))))))))))))

-- the first of the causes whose number it is; 0 is the number of none
abbrev pub cause_among : List Cause → ℕ → Option Cause
cause_among [] number = None
cause_among (c ∷ cs) number = cond (number == cause_number c) (Some c) (cause_among cs number)

abbrev pub cause_of : ℕ → Option Cause
cause_of number = cause_among every_cause number

abbrev pub fault : Cause → ℕ → ℕ → Fault
fault cause line field = record { cause = cause; line = line; field = field }
