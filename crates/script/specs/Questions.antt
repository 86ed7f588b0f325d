-- The questions that a line is asked, in order, and the first that is answered no.
use Rattle.std.specs.Prelude.{ℕ, ◌+◌, Bool, true, false, List, [], ◌∷◌, length, is_some, Some, None, Ok, Err, Option, Result, ◌==◌, nat_le}
use Rattle.script.specs.declared.command.Command.{Command}
use Rattle.script.specs.declared.fault.Fault.{Fault}
use Rattle.script.specs.declared.fault.Cause.TheVariants.{LineTooLong, NoCommand, WrongFieldCount, BadNumber, BadKind}
use Rattle.script.specs.declared.field.Shape.{Shape}
use Rattle.script.specs.declared.field.Shape.TheVariants.{Word, Number, Letter}
use Rattle.script.specs.Parts.{Bytes}
use Rattle.script.specs.Faults.{fault}
use Rattle.script.specs.Numbers.{number_of}
use Rattle.script.specs.Fields.{fields, field_at, kind_in}
use Rattle.script.specs.Commands.{command_of, field_count, shapes}

-- a question: its answer, and the fault where that is no
abbrev pub Question : Type 0
Question = Bool × Fault

abbrev pub or_else : Bool → Fault → Option Fault → Option Fault
or_else true f later = later
or_else false f later = Some f

abbrev pub first_fault : List Question → Option Fault
first_fault [] = None
first_fault (q ∷ qs) = or_else q.0 q.1 (first_fault qs)

module _ (number : ℕ) (line : Bytes) where
  -- the fields from a place on: a number is 1 to 5 digits, a kind one kind letter
  abbrev pub of_fields : ℕ → List Shape → List Question
  of_fields place [] = []
  of_fields place (Word ∷ ss) = of_fields (place + 1) ss
  of_fields place (Number ∷ ss) = (is_some (number_of (field_at line place)), fault BadNumber number place) ∷ of_fields (place + 1) ss
  of_fields place (Letter ∷ ss) = (is_some (kind_in (field_at line place)), fault BadKind number place) ∷ of_fields (place + 1) ss

  -- the right number of fields, and then each of them from left to right
  abbrev pub of_command : Option Command → List Question
  of_command None = []
  of_command (Some c) = ((length (fields line) == field_count c), fault WrongFieldCount number 0) ∷ of_fields 2 (shapes c)

  -- at most 64 bytes, a command, and what that asks
  abbrev pub questions : List Question
  questions =
      (nat_le (length line) 64, fault LineTooLong number 0)
      ∷ ((is_some (command_of (field_at line 1)), fault NoCommand number 1)
      ∷ of_command (command_of (field_at line 1)))

-- the fault that a result holds
abbrev pub fault_in : {X : Type 0} → Result X Fault → Option Fault
fault_in (Ok x) = None
fault_in (Err f) = Some f
