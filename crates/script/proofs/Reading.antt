-- A call written as a line is read back as that call.
use Rattle.std.proofs.Common.{◌≡◌, ℕ, suc, ◌+◌, ◌*◌, ◌≤◌, true, eqb, List, [], ◌∷◌, ◌++◌, length, get_or, decimal, Some, Ok, Result, refl, ap, ◌∙◌, arith}
use Rattle.std.proofs.lemmas.Bool.{and_from, le-leb, eq-eqb}
use Rattle.std.proofs.lemmas.List.{length-append}
use Rattle.std.specs.List.{flat_map, list_all}
use Rattle.std.specs.Option.{ok_or}
use Rattle.rows.specs.Letters.{letter_of, kind_of}
use Rattle.rows.specs.declared.kind.Kind.{Kind}
use Rattle.rows.specs.declared.kind.Kind.TheVariants.{Heading, Item, RateOnly, ProvisionalSum, Note, Collection, Summary, Blank}
use Rattle.plain.specs.declared.call.Call.{Call}
use Rattle.plain.specs.declared.call.Call.TheVariants as call
use Rattle.script.specs.declared.command.Command.{Command}
use Rattle.script.specs.declared.command.Command.TheVariants.{Open, Copy, Rename, Close, Insert, Strike, Replace, Whole, Range}
use Rattle.script.specs.declared.fault.Fault.{Fault}
use Rattle.script.specs.declared.fault.Cause.TheVariants.{LineTooLong, NoCommand, WrongFieldCount, BadNumber, BadKind}
use Rattle.script.specs.Parts.{Bytes, is_free_of, joined}
use Rattle.script.specs.Faults.{fault}
use Rattle.script.specs.Fields.{fields, field_at, number_at, kind_at}
use Rattle.script.specs.Commands.{name_of, command_of, field_count}
use Rattle.script.specs.Said.{◌then◌, asks, value, letter, called, said}
use Rattle.script.specs.Written.{written, Short, Sayable}
use Rattle.script.proofs.Decimals.{decimal_free, few_bytes, numeral_read}
use Rattle.script.proofs.Joining.{parted_joined}

-- a field of at most five bytes, none of them a comma
abbrev Plain : Bytes → Type 0
Plain part = (is_free_of 44 part ≡ true) × (length part ≤ 5)

abbrev AllPlain : List Bytes → Type 0
AllPlain [] = Unit {0}
AllPlain (part ∷ parts) = Plain part × AllPlain parts

plain_number : (n : ℕ) → Short n → Plain (decimal n)
plain_number n short = (decimal_free 44 (omega arith) n (omega arith), few_bytes n short)

plain_letter : (kind : Kind) → Plain (letter_of kind ∷ [])
plain_letter Heading = (refl, omega arith)
plain_letter Item = (refl, omega arith)
plain_letter RateOnly = (refl, omega arith)
plain_letter ProvisionalSum = (refl, omega arith)
plain_letter Note = (refl, omega arith)
plain_letter Collection = (refl, omega arith)
plain_letter Summary = (refl, omega arith)
plain_letter Blank = (refl, omega arith)

all_free : (parts : List Bytes) → AllPlain parts → list_all (is_free_of 44) parts ≡ true
all_free [] plain = refl
all_free (part ∷ parts) plain = and_from (is_free_of 44 part) (list_all (is_free_of 44) parts) plain.0.0 (all_free parts plain.1)

all_short : (parts : List Bytes) → AllPlain parts → length (flat_map (λ part. 44 ∷ part) parts) ≤ 6 * length parts
all_short [] plain = omega arith
all_short (part ∷ parts) plain =
    let rest : Bytes = flat_map (λ p. 44 ∷ p) parts in
    let more : suc (length (part ++ rest)) ≤ 6 * suc (length parts) = omega (arith, length-append part rest, plain.0.1, all_short parts plain.1) in
    more

-- the names of the commands
name_free : (c : Command) → is_free_of 44 (name_of c) ≡ true
name_free Open = refl
name_free Copy = refl
name_free Rename = refl
name_free Close = refl
name_free Insert = refl
name_free Strike = refl
name_free Replace = refl
name_free Whole = refl
name_free Range = refl

name_short : (c : Command) → length (name_of c) ≤ 7
name_short Open = omega arith
name_short Copy = omega arith
name_short Rename = omega arith
name_short Close = omega arith
name_short Insert = omega arith
name_short Strike = omega arith
name_short Replace = omega arith
name_short Whole = omega arith
name_short Range = omega arith

name_known : (c : Command) → command_of (name_of c) ≡ Some c
name_known Open = refl
name_known Copy = refl
name_known Rename = refl
name_known Close = refl
name_known Insert = refl
name_known Strike = refl
name_known Replace = refl
name_known Whole = refl
name_known Range = refl

letter_known : (kind : Kind) → kind_of (letter_of kind) ≡ Some kind
letter_known Heading = refl
letter_known Item = refl
letter_known RateOnly = refl
letter_known ProvisionalSum = refl
letter_known Note = refl
letter_known Collection = refl
letter_known Summary = refl
letter_known Blank = refl

few_fields : (c : Command) → field_count c ≤ 4
few_fields Open = omega arith
few_fields Copy = omega arith
few_fields Rename = omega arith
few_fields Close = omega arith
few_fields Insert = omega arith
few_fields Strike = omega arith
few_fields Replace = omega arith
few_fields Whole = omega arith
few_fields Range = omega arith

-- what follows a number or a kind that was read
then_ok : {X Y : Type 0} (r : Result X Fault) (x : X) (f : X → Result Y Fault) → r ≡ Ok x → (r then f) ≡ f x
then_ok r x f e = ap (λ s. s then f) e

module _ (number : ℕ) where
  module _ (line : Bytes) (place : ℕ) where
    value_read : (n : ℕ) → Short n → field_at line place ≡ decimal n → value number line place ≡ Ok n
    value_read n short e = ap (number_at number place) e ∙ ap (λ o. ok_or o (fault BadNumber number place)) (numeral_read n short)

    letter_read : (kind : Kind) → field_at line place ≡ letter_of kind ∷ [] → letter number line place ≡ Ok kind
    letter_read kind e = ap (kind_at number place) e ∙ ap (λ o. ok_or o (fault BadKind number place)) (letter_known kind)

  -- a short line of the right number of fields, whose first names a command
  said_call : (line : Bytes) (c : Command) → length line ≤ 64 → command_of (field_at line 1) ≡ Some c → length (fields line) ≡ field_count c → said number line ≡ called number line c
  said_call line c short is count =
      ap (λ v. asks v (fault LineTooLong number 0) (ok_or (command_of (field_at line 1)) (fault NoCommand number 1) then λ d. asks (eqb (length (fields line)) (field_count d)) (fault WrongFieldCount number 0) (called number line d)))
      (le-leb (length line) 64 short)
      ∙ ap (λ o. ok_or o (fault NoCommand number 1) then λ d. asks (eqb (length (fields line)) (field_count d)) (fault WrongFieldCount number 0) (called number line d)) is
      ∙ ap (λ v. asks v (fault WrongFieldCount number 0) (called number line c)) (eq-eqb (length (fields line)) (field_count c) count)

  -- a command joined with plain fields
  spoken : (c : Command) (parts : List Bytes) (said' : Call) → AllPlain parts → length parts + 1 ≡ field_count c
      → ((line : Bytes) → fields line ≡ name_of c ∷ parts → called number line c ≡ Ok said') → said number (joined 44 (name_of c ∷ parts)) ≡ Ok said'
  spoken c parts said' plain count says =
      let line : Bytes = joined 44 (name_of c ∷ parts) in
      let apart : fields line ≡ name_of c ∷ parts = parted_joined 44 (name_of c) parts (name_free c) (all_free parts plain) in
      let long = length-append (name_of c) (flat_map (λ next. 44 ∷ next) parts) in
      said_call line c (omega (arith, long, count, few_fields c, name_short c, all_short parts plain))
      (ap (λ ps. command_of (get_or ps 0 [])) apart ∙ name_known c)
      (ap length apart ∙ omega (arith, count))
      ∙ says line apart

  module _ (line : Bytes) (name : Bytes) where
    one_read : (v : ℕ) (next : ℕ → Result Call Fault) → Short v → (rest : List Bytes) → fields line ≡ name ∷ (decimal v ∷ rest) → (value number line 2 then next) ≡ next v
    one_read v next s rest e = then_ok (value number line 2) v next (value_read line 2 v s (ap (λ ps. get_or ps 1 []) e))

    two_read : (v w : ℕ) (next : ℕ → ℕ → Result Call Fault) → Short v → Short w → (rest : List Bytes) → fields line ≡ name ∷ (decimal v ∷ (decimal w ∷ rest)) → (value number line 2 then λ x. value number line 3 then λ y. next x y) ≡ next v w
    two_read v w next s t rest e =
        one_read v (λ x. value number line 3 then λ y. next x y) s (decimal w ∷ rest) e
        ∙ then_ok (value number line 3) w (next v) (value_read line 3 w t (ap (λ ps. get_or ps 2 []) e))

  pub read_back : (c : Call) → Sayable c → said number (written c) ≡ Ok c
  read_back (call.Open tag) s = spoken Open (decimal tag ∷ []) (call.Open tag) (plain_number tag s, tt) refl (λ line e. one_read line (name_of Open) tag (λ x. Ok (call.Open x)) s [] e)
  read_back (call.Copy tag new) s =
      spoken Copy (decimal tag ∷ (decimal new ∷ [])) (call.Copy tag new) (plain_number tag s.0, (plain_number new s.1, tt)) refl
      (λ line e. two_read line (name_of Copy) tag new (λ x y. Ok (call.Copy x y)) s.0 s.1 [] e)
  read_back (call.Rename tag new) s =
      spoken Rename (decimal tag ∷ (decimal new ∷ [])) (call.Rename tag new) (plain_number tag s.0, (plain_number new s.1, tt)) refl
      (λ line e. two_read line (name_of Rename) tag new (λ x y. Ok (call.Rename x y)) s.0 s.1 [] e)
  read_back (call.Close tag) s = spoken Close (decimal tag ∷ []) (call.Close tag) (plain_number tag s, tt) refl (λ line e. one_read line (name_of Close) tag (λ x. Ok (call.Close x)) s [] e)
  read_back (call.Insert tag row kind) s =
      spoken Insert (decimal tag ∷ (decimal row ∷ ((letter_of kind ∷ []) ∷ []))) (call.Insert tag row kind) (plain_number tag s.0, (plain_number row s.1, (plain_letter kind, tt))) refl
      (λ line e.
      two_read line (name_of Insert) tag row (λ x y. letter number line 4 then λ k. Ok (call.Insert x y k)) s.0 s.1 ((letter_of kind ∷ []) ∷ []) e
      ∙ then_ok (letter number line 4) kind (λ k. Ok (call.Insert tag row k)) (letter_read line 4 kind (ap (λ ps. get_or ps 3 []) e)))
  read_back (call.Strike tag row) s =
      spoken Strike (decimal tag ∷ (decimal row ∷ [])) (call.Strike tag row) (plain_number tag s.0, (plain_number row s.1, tt)) refl
      (λ line e. two_read line (name_of Strike) tag row (λ x y. Ok (call.Strike x y)) s.0 s.1 [] e)
  read_back (call.Replace tag row kind) s =
      spoken Replace (decimal tag ∷ (decimal row ∷ ((letter_of kind ∷ []) ∷ []))) (call.Replace tag row kind) (plain_number tag s.0, (plain_number row s.1, (plain_letter kind, tt))) refl
      (λ line e.
      two_read line (name_of Replace) tag row (λ x y. letter number line 4 then λ k. Ok (call.Replace x y k)) s.0 s.1 ((letter_of kind ∷ []) ∷ []) e
      ∙ then_ok (letter number line 4) kind (λ k. Ok (call.Replace tag row k)) (letter_read line 4 kind (ap (λ ps. get_or ps 3 []) e)))
  read_back (call.Whole tag) s = spoken Whole (decimal tag ∷ []) (call.Whole tag) (plain_number tag s, tt) refl (λ line e. one_read line (name_of Whole) tag (λ x. Ok (call.Whole x)) s [] e)
  read_back (call.Range tag first last) s =
      spoken Range (decimal tag ∷ (decimal first ∷ (decimal last ∷ []))) (call.Range tag first last) (plain_number tag s.0, (plain_number first s.1.0, (plain_number last s.1.1, tt))) refl
      (λ line e.
      two_read line (name_of Range) tag first (λ x y. value number line 4 then λ z. Ok (call.Range x y z)) s.0 s.1.0 (decimal last ∷ []) e
      ∙ then_ok (value number line 4) last (λ z. Ok (call.Range tag first z)) (value_read line 4 last s.1.1 (ap (λ ps. get_or ps 3 []) e)))
  read_back (call.Pause tag) s = absurd s
  read_back (call.Recalculate tag) s = absurd s
