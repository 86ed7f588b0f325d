-- A line says only calls that can be written: a command's, with numbers of at most five digits.
use Rattle.std.proofs.Common.{◌≡◌, ℕ, suc, ◌+◌, ◌-◌, ◌*◌, ◌^◌, ◌<◌, Bool, true, false, eqb, leb, [], ◌∷◌, length, Some, None, Ok, Err, Option, Result, sym, refl, subst, ◌∙◌, ⊎_elim, arith}
use Rattle.std.proofs.lemmas.Bool.{cases_Bool, cond-true, cond-false}
use Rattle.std.specs.Option.{ok_or}
use Rattle.rows.specs.declared.kind.Kind.{Kind}
use Rattle.plain.specs.declared.call.Call.{Call}
use Rattle.plain.specs.declared.call.Call.TheVariants as call
use Rattle.script.specs.declared.command.Command.{Command}
use Rattle.script.specs.declared.command.Command.TheVariants.{Open, Copy, Rename, Close, Insert, Strike, Replace, Whole, Range}
use Rattle.script.specs.declared.fault.Fault.{Fault}
use Rattle.script.specs.declared.fault.Cause.TheVariants.{LineTooLong, NoCommand, WrongFieldCount, BadNumber, BadKind}
use Rattle.script.specs.Parts.{Bytes}
use Rattle.script.specs.Faults.{fault}
use Rattle.script.specs.Fields.{fields, field_at, kind_in}
use Rattle.script.specs.Numbers.{is_digit, is_numeral_length, read_on, number_of}
use Rattle.script.specs.Commands.{command_of, field_count}
use Rattle.script.specs.Said.{◌then◌, asks, value, letter, called, said}
use Rattle.script.specs.Written.{Short, Sayable}
use Rattle.script.proofs.Digits.{digit_small, few_digits, grows, small}

-- so many digits write a number below that power of ten
below : (text : Bytes) (n v i : ℕ) → n < 10 ^ i → read_on n text ≡ Some v → v < 10 ^ (i + length text)
below [] n v i h e =
    let same : n ≡ v = cc in
    let none : i + 0 ≡ i = omega arith in
    subst (λ m. m < 10 ^ (i + 0)) same (subst (λ j. n < 10 ^ j) (sym none) h)
below (b ∷ bs) n v i h e =
    ⊎_elim
    (λ (is : is_digit b ≡ true).
    let more : i + 1 + length bs ≡ i + suc (length bs) = omega arith in
    subst (λ j. v < 10 ^ j) more
    (below bs (10 * n + (b - 48)) v (i + 1) (grows n i (b - 48) h (digit_small b is)) (sym (cond-true (is_digit b) (read_on (10 * n + (b - 48)) bs) None is) ∙ e)))
    (λ (is : is_digit b ≡ false).
    let none : None ≡ Some v = sym (cond-false (is_digit b) (read_on (10 * n + (b - 48)) bs) None is) ∙ e in
    let z : ◌≡◌ {A = ℕ} 0 1 = cc in
    absurd (omega arith))
    (cases_Bool (is_digit b))

number_short : (text : Bytes) (n : ℕ) → number_of text ≡ Some n → Short n
number_short text n e =
    ⊎_elim
    (λ (is : is_numeral_length (length text) ≡ true).
    let v = below text 0 n 0 (omega arith) (sym (cond-true (is_numeral_length (length text)) (read_on 0 text) None is) ∙ e) in
    omega (arith, small n (0 + length text) v (omega (arith, few_digits (length text) is))))
    (λ (is : is_numeral_length (length text) ≡ false).
    let none : None ≡ Some n = sym (cond-false (is_numeral_length (length text)) (read_on 0 text) None is) ∙ e in
    let z : ◌≡◌ {A = ℕ} 0 1 = cc in
    absurd (omega arith))
    (cases_Bool (is_numeral_length (length text)))

abbrev pub SayableIn : Result Call Fault → Type 0
SayableIn (Ok call) = Sayable call
SayableIn (Err f) = Unit {0}

sayable_read : {X : Type 0} (o : Option X) (f : Fault) (next : X → Result Call Fault) → ((x : X) → o ≡ Some x → SayableIn (next x)) → SayableIn (ok_or o f then next)
sayable_read (Some x) f next h = h x refl
sayable_read None f next h = tt

sayable_asks : (b : Bool) (f : Fault) (r : Result Call Fault) → SayableIn r → SayableIn (asks b f r)
sayable_asks true f r h = h
sayable_asks false f r h = tt

module _ (number : ℕ) (line : Bytes) where
  with_number : (place : ℕ) (next : ℕ → Result Call Fault) → ((n : ℕ) → Short n → SayableIn (next n)) → SayableIn (value number line place then next)
  with_number place next h = sayable_read (number_of (field_at line place)) (fault BadNumber number place) next (λ n e. h n (number_short (field_at line place) n e))

  with_two : (next : ℕ → ℕ → Result Call Fault) → ((m n : ℕ) → Short m → Short n → SayableIn (next m n)) → SayableIn (value number line 2 then λ m. value number line 3 then λ n. next m n)
  with_two next h = with_number 2 (λ m. value number line 3 then λ n. next m n) (λ m s. with_number 3 (next m) (λ n t. h m n s t))

  with_letter : (next : Kind → Call) → ((k : Kind) → Sayable (next k)) → SayableIn (letter number line 4 then λ k. Ok (next k))
  with_letter next h = sayable_read (kind_in (field_at line 4)) (fault BadKind number 4) (λ k. Ok (next k)) (λ k e. h k)

  sayable_called : (c : Command) → SayableIn (called number line c)
  sayable_called Open = with_number 2 (λ tag. Ok (call.Open tag)) (λ tag s. s)
  sayable_called Copy = with_two (λ tag new. Ok (call.Copy tag new)) (λ tag new s t. (s, t))
  sayable_called Rename = with_two (λ tag new. Ok (call.Rename tag new)) (λ tag new s t. (s, t))
  sayable_called Close = with_number 2 (λ tag. Ok (call.Close tag)) (λ tag s. s)
  sayable_called Insert = with_two (λ tag row. letter number line 4 then λ k. Ok (call.Insert tag row k)) (λ tag row s t. with_letter (λ k. call.Insert tag row k) (λ k. (s, t)))
  sayable_called Strike = with_two (λ tag row. Ok (call.Strike tag row)) (λ tag row s t. (s, t))
  sayable_called Replace = with_two (λ tag row. letter number line 4 then λ k. Ok (call.Replace tag row k)) (λ tag row s t. with_letter (λ k. call.Replace tag row k) (λ k. (s, t)))
  sayable_called Whole = with_number 2 (λ tag. Ok (call.Whole tag)) (λ tag s. s)
  sayable_called Range = with_two (λ tag first. value number line 4 then λ last. Ok (call.Range tag first last)) (λ tag first s t. with_number 4 (λ last. Ok (call.Range tag first last)) (λ last u. (s, (t, u))))

  sayable_said : SayableIn (said number line)
  sayable_said =
      sayable_asks (leb (length line) 64) (fault LineTooLong number 0)
      (ok_or (command_of (field_at line 1)) (fault NoCommand number 1) then λ c. asks (eqb (length (fields line)) (field_count c)) (fault WrongFieldCount number 0) (called number line c))
      (sayable_read (command_of (field_at line 1)) (fault NoCommand number 1) (λ c. asks (eqb (length (fields line)) (field_count c)) (fault WrongFieldCount number 0) (called number line c)) (λ c e.
      sayable_asks (eqb (length (fields line)) (field_count c)) (fault WrongFieldCount number 0) (called number line c) (sayable_called c)))

  pub only_sayable : (says : Result Call Fault) → says ≡ said number line → (c : Call) → says ≡ Ok c → Sayable c
  only_sayable says is c e = subst SayableIn (sym is ∙ e) sayable_said
