-- What a line says: a call, or the first fault by the order in which a line is asked.
use Rattle.std.specs.Prelude.{ℕ, Bool, true, false, length, Ok, Err, Result, ◌==◌, nat_le}
use Rattle.std.specs.Option.{ok_or}
use Rattle.rows.specs.declared.kind.Kind.{Kind}
use Rattle.plain.specs.declared.call.Call.{Call}
use Rattle.plain.specs.declared.call.Call.TheVariants as call
use Rattle.script.specs.declared.command.Command.{Command}
use Rattle.script.specs.declared.command.Command.TheVariants.{Open, Copy, Rename, Close, Insert, Strike, Replace, Whole, Range}
use Rattle.script.specs.declared.fault.Fault.{Fault}
use Rattle.script.specs.declared.fault.Cause.TheVariants.{LineTooLong, NoCommand, WrongFieldCount}
use Rattle.script.specs.Parts.{Bytes}
use Rattle.script.specs.Faults.{fault}
use Rattle.script.specs.Fields.{fields, field_at, number_at, kind_at}
use Rattle.script.specs.Commands.{command_of, field_count}

-- a fault ends what follows
infixr 20 ◌then◌
abbrev pub ◌then◌ : {X Y : Type 0} → Result X Fault → (X → Result Y Fault) → Result Y Fault
Ok x then f = f x
Err e then f = Err e

-- a question: what follows where the answer is yes, else the fault
abbrev pub asks : {X : Type 0} → Bool → Fault → Result X Fault → Result X Fault
asks true f r = r
asks false f r = Err f

module _ (number : ℕ) (line : Bytes) where
  -- the field at a place, as a number or a kind
  abbrev pub value : ℕ → Result ℕ Fault
  value place = number_at number place (field_at line place)

  abbrev pub letter : ℕ → Result Kind Fault
  letter place = kind_at number place (field_at line place)

  -- the call of a command, its fields taken from left to right
  abbrev pub called : Command → Result Call Fault
  called Open = value 2 then λ tag. Ok (call.Open tag)
  called Copy = value 2 then λ tag. value 3 then λ new. Ok (call.Copy tag new)
  called Rename = value 2 then λ tag. value 3 then λ new. Ok (call.Rename tag new)
  called Close = value 2 then λ tag. Ok (call.Close tag)
  called Insert = value 2 then λ tag. value 3 then λ row. letter 4 then λ kind. Ok (call.Insert tag row kind)
  called Strike = value 2 then λ tag. value 3 then λ row. Ok (call.Strike tag row)
  called Replace = value 2 then λ tag. value 3 then λ row. letter 4 then λ kind. Ok (call.Replace tag row kind)
  called Whole = value 2 then λ tag. Ok (call.Whole tag)
  called Range = value 2 then λ tag. value 3 then λ first. value 4 then λ last. Ok (call.Range tag first last)

  abbrev pub command_said : Result Command Fault
  command_said = ok_or (command_of (field_at line 1)) (fault NoCommand number 1)

  -- what the line of this number says
  abbrev pub said : Result Call Fault
  said =
      asks (nat_le (length line) 64) (fault LineTooLong number 0)
      (command_said then λ c.
      asks (length (fields line) == field_count c) (fault WrongFieldCount number 0)
      (called c))
