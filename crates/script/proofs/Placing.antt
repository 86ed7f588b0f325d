-- A fault of a line has the number of that line, and the place of one of its fields or none.
use Rattle.std.proofs.Common.{◌≡◌, ℕ, ◌≤◌, Bool, true, false, eqb, leb, length, Some, None, Ok, Err, Option, Result, sym, subst, refl, ◌∙◌, arith}
use Rattle.std.specs.Option.{ok_or}
use Rattle.plain.specs.declared.call.Call.{Call}
use Rattle.plain.specs.declared.call.Call.TheVariants as call
use Rattle.script.specs.declared.command.Command.{Command}
use Rattle.script.specs.declared.command.Command.TheVariants.{Open, Copy, Rename, Close, Insert, Strike, Replace, Whole, Range}
use Rattle.script.specs.declared.fault.Fault.{Fault}
use Rattle.script.specs.declared.fault.Cause.TheVariants.{LineTooLong, NoCommand, WrongFieldCount, BadNumber, BadKind}
use Rattle.script.specs.Parts.{Bytes}
use Rattle.script.specs.Faults.{fault}
use Rattle.script.specs.Fields.{fields, field_at, kind_in}
use Rattle.script.specs.Numbers.{number_of}
use Rattle.script.specs.Commands.{command_of, field_count}
use Rattle.script.specs.Said.{◌then◌, asks, value, letter, called, said}

module _ (number : ℕ) where
  abbrev Placed : Fault → Type 0
  Placed f = (f.line ≡ number) × (f.field ≤ 4)

  abbrev PlacedIn : {X : Type 0} → Result X Fault → Type 0
  PlacedIn (Ok x) = Unit {0}
  PlacedIn (Err f) = Placed f

  placed_read : {X : Type 0} (o : Option X) (f : Fault) (next : X → Result Call Fault) → Placed f → ((x : X) → PlacedIn (next x)) → PlacedIn (ok_or o f then next)
  placed_read (Some x) f next p h = h x
  placed_read None f next p h = p

  placed_asks : (b : Bool) (f : Fault) (r : Result Call Fault) → Placed f → PlacedIn r → PlacedIn (asks b f r)
  placed_asks true f r p h = h
  placed_asks false f r p h = p

  module _ (line : Bytes) where
    with_number : (place : ℕ) (next : ℕ → Result Call Fault) → place ≤ 4 → ((n : ℕ) → PlacedIn (next n)) → PlacedIn (value number line place then next)
    with_number place next low h = placed_read (number_of (field_at line place)) (fault BadNumber number place) next (refl, low) h

    with_two : (next : ℕ → ℕ → Result Call Fault) → ((m n : ℕ) → PlacedIn (next m n)) → PlacedIn (value number line 2 then λ m. value number line 3 then λ n. next m n)
    with_two next h = with_number 2 (λ m. value number line 3 then λ n. next m n) (omega arith) (λ m. with_number 3 (next m) (omega arith) (h m))

    placed_called : (c : Command) → PlacedIn (called number line c)
    placed_called Open = with_number 2 (λ tag. Ok (call.Open tag)) (omega arith) (λ tag. tt)
    placed_called Copy = with_two (λ tag new. Ok (call.Copy tag new)) (λ tag new. tt)
    placed_called Rename = with_two (λ tag new. Ok (call.Rename tag new)) (λ tag new. tt)
    placed_called Close = with_number 2 (λ tag. Ok (call.Close tag)) (omega arith) (λ tag. tt)
    placed_called Insert =
        with_two (λ tag row. letter number line 4 then λ k. Ok (call.Insert tag row k))
        (λ tag row. placed_read (kind_in (field_at line 4)) (fault BadKind number 4) (λ k. Ok (call.Insert tag row k)) (refl, omega arith) (λ k. tt))
    placed_called Strike = with_two (λ tag row. Ok (call.Strike tag row)) (λ tag row. tt)
    placed_called Replace =
        with_two (λ tag row. letter number line 4 then λ k. Ok (call.Replace tag row k))
        (λ tag row. placed_read (kind_in (field_at line 4)) (fault BadKind number 4) (λ k. Ok (call.Replace tag row k)) (refl, omega arith) (λ k. tt))
    placed_called Whole = with_number 2 (λ tag. Ok (call.Whole tag)) (omega arith) (λ tag. tt)
    placed_called Range =
        with_two (λ tag first. value number line 4 then λ last. Ok (call.Range tag first last))
        (λ tag first. with_number 4 (λ last. Ok (call.Range tag first last)) (omega arith) (λ last. tt))

    placed_said : PlacedIn (said number line)
    placed_said =
        placed_asks (leb (length line) 64) (fault LineTooLong number 0)
        (ok_or (command_of (field_at line 1)) (fault NoCommand number 1) then λ c. asks (eqb (length (fields line)) (field_count c)) (fault WrongFieldCount number 0) (called number line c))
        (refl, omega arith)
        (placed_read (command_of (field_at line 1)) (fault NoCommand number 1) (λ c. asks (eqb (length (fields line)) (field_count c)) (fault WrongFieldCount number 0) (called number line c)) (refl, omega arith)
        (λ c. placed_asks (eqb (length (fields line)) (field_count c)) (fault WrongFieldCount number 0) (called number line c) (refl, omega arith) (placed_called c)))

    pub placed : (says : Result Call Fault) → says ≡ said number line → (f : Fault) → says ≡ Err f → (f.line ≡ number) × (f.field ≤ 4)
    placed says is f e = subst PlacedIn (sym is ∙ e) placed_said
