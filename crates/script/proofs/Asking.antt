-- The fault that a line is answered with is that of the first question answered no.
use Rattle.std.proofs.Common.{◌≡◌, ℕ, Bool, true, false, eqb, leb, List, [], ◌∷◌, length, is_some, Some, None, Ok, Option, Result, refl}
use Rattle.std.specs.Option.{ok_or}
use Rattle.rows.specs.declared.kind.Kind.{Kind}
use Rattle.plain.specs.declared.call.Call.{Call}
use Rattle.plain.specs.declared.call.Call.TheVariants as call
use Rattle.script.specs.declared.command.Command.{Command}
use Rattle.script.specs.declared.command.Command.TheVariants.{Open, Copy, Rename, Close, Insert, Strike, Replace, Whole, Range}
use Rattle.script.specs.declared.fault.Fault.{Fault}
use Rattle.script.specs.declared.fault.Cause.TheVariants.{LineTooLong, NoCommand, WrongFieldCount, BadNumber, BadKind}
use Rattle.script.specs.declared.field.Shape.TheVariants.{Number, Letter}
use Rattle.script.specs.Parts.{Bytes}
use Rattle.script.specs.Faults.{fault}
use Rattle.script.specs.Numbers.{number_of}
use Rattle.script.specs.Fields.{fields, field_at, kind_in}
use Rattle.script.specs.Commands.{command_of, shapes, field_count}
use Rattle.script.specs.Said.{◌then◌, asks, value, letter, called, said}
use Rattle.script.specs.Questions.{Question, first_fault, of_fields, of_command, questions, fault_in}

-- a question answered before the others
asked : {X : Type 0} (b : Bool) (f : Fault) (r : Result X Fault) (qs : List Question) → fault_in r ≡ first_fault qs → fault_in (asks b f r) ≡ first_fault ((b, f) ∷ qs)
asked true f r qs e = e
asked false f r qs e = refl

-- a field taken before the others
taken : {X Y : Type 0} (o : Option X) (f : Fault) (next : X → Result Y Fault) (qs : List Question) → ((x : X) → fault_in (next x) ≡ first_fault qs) → fault_in (ok_or o f then next) ≡ first_fault ((is_some o, f) ∷ qs)
taken (Some x) f next qs e = e x
taken None f next qs e = refl

module _ (n : ℕ) (line : Bytes) where
  of_number : (place : ℕ) (next : ℕ → Result Call Fault) (qs : List Question) → ((v : ℕ) → fault_in (next v) ≡ first_fault qs)
      → fault_in (value n line place then next) ≡ first_fault ((is_some (number_of (field_at line place)), fault BadNumber n place) ∷ qs)
  of_number place next qs e = taken (number_of (field_at line place)) (fault BadNumber n place) next qs e

  of_letter : (next : Kind → Call) → fault_in (letter n line 4 then λ kind. Ok (next kind)) ≡ first_fault ((is_some (kind_in (field_at line 4)), fault BadKind n 4) ∷ [])
  of_letter next = taken (kind_in (field_at line 4)) (fault BadKind n 4) (λ kind. Ok (next kind)) [] (λ kind. refl)

  -- one number, two numbers, and two numbers before another field
  one : (next : ℕ → Call) → fault_in (value n line 2 then λ v. Ok (next v)) ≡ first_fault (of_fields n line 2 (shapes Open))
  one next = of_number 2 (λ v. Ok (next v)) [] (λ v. refl)

  two : (next : ℕ → ℕ → Result Call Fault) (qs : List Question) → ((v w : ℕ) → fault_in (next v w) ≡ first_fault qs)
      → fault_in (value n line 2 then λ v. value n line 3 then λ w. next v w)
      ≡ first_fault ((is_some (number_of (field_at line 2)), fault BadNumber n 2) ∷ ((is_some (number_of (field_at line 3)), fault BadNumber n 3) ∷ qs))
  two next qs e =
      of_number 2 (λ v. value n line 3 then λ w. next v w) ((is_some (number_of (field_at line 3)), fault BadNumber n 3) ∷ qs) (λ v. of_number 3 (next v) qs (e v))

  called_first : (c : Command) → fault_in (called n line c) ≡ first_fault (of_fields n line 2 (shapes c))
  called_first Open = one (λ tag. call.Open tag)
  called_first Copy = two (λ tag new. Ok (call.Copy tag new)) [] (λ tag new. refl)
  called_first Rename = two (λ tag new. Ok (call.Rename tag new)) [] (λ tag new. refl)
  called_first Close = one (λ tag. call.Close tag)
  called_first Insert = two (λ tag row. letter n line 4 then λ kind. Ok (call.Insert tag row kind)) (of_fields n line 4 (Letter ∷ [])) (λ tag row. of_letter (λ kind. call.Insert tag row kind))
  called_first Strike = two (λ tag row. Ok (call.Strike tag row)) [] (λ tag row. refl)
  called_first Replace = two (λ tag row. letter n line 4 then λ kind. Ok (call.Replace tag row kind)) (of_fields n line 4 (Letter ∷ [])) (λ tag row. of_letter (λ kind. call.Replace tag row kind))
  called_first Whole = one (λ tag. call.Whole tag)
  called_first Range = two (λ tag first. value n line 4 then λ last. Ok (call.Range tag first last)) (of_fields n line 4 (Number ∷ [])) (λ tag first. of_number 4 (λ last. Ok (call.Range tag first last)) [] (λ last. refl))

  commanded : (o : Option Command) → fault_in (ok_or o (fault NoCommand n 1) then λ c. asks (eqb (length (fields line)) (field_count c)) (fault WrongFieldCount n 0) (called n line c)) ≡ first_fault ((is_some o, fault NoCommand n 1) ∷ of_command n line o)
  commanded (Some c) = asked (eqb (length (fields line)) (field_count c)) (fault WrongFieldCount n 0) (called n line c) (of_fields n line 2 (shapes c)) (called_first c)
  commanded None = refl

  pub first_asked : fault_in (said n line) ≡ first_fault (questions n line)
  first_asked =
      asked (leb (length line) 64) (fault LineTooLong n 0)
      (ok_or (command_of (field_at line 1)) (fault NoCommand n 1) then λ c. asks (eqb (length (fields line)) (field_count c)) (fault WrongFieldCount n 0) (called n line c))
      ((is_some (command_of (field_at line 1)), fault NoCommand n 1) ∷ of_command n line (command_of (field_at line 1)))
      (commanded (command_of (field_at line 1)))
