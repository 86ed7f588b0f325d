-- A number written in decimal: it holds no byte but digits, and is read back.
use Rattle.std.proofs.Common.{◌≡◌, ℕ, ◌+◌, ◌-◌, ◌*◌, ◌/◌, ◌%◌, ◌^◌, ◌<◌, ◌≤◌, true, false, not, ◌&&◌, eqb, leb, [], ◌∷◌, ◌++◌, length, decimal, Some, None, sym, ap, ◌∙◌, ⊎_elim, arith}
use Rattle.std.proofs.lemmas.Bool.{cases_Bool, and_from, le-leb, ne_eqb, cond-true, cond-false}
use Rattle.std.proofs.lemmas.Fmt.{decimal_by_steps, decimal_nonempty, length-decimal-le}
use Rattle.std.proofs.lemmas.List.Folds.{list_all-append}
use Rattle.script.specs.Parts.{Bytes, is_free_of}
use Rattle.script.specs.Numbers.{is_digit, is_numeral_length, read_on, number_of}

digit_read : (m d : ℕ) → d < 10 → read_on m ((48 + d) ∷ []) ≡ Some (10 * m + d)
digit_read m d low =
    let digit : is_digit (48 + d) ≡ true = and_from (leb 48 (48 + d)) (leb (48 + d) 57) (le-leb 48 (48 + d) (omega arith)) (le-leb (48 + d) 57 (omega arith)) in
    let value : 10 * m + (48 + d - 48) ≡ 10 * m + d = omega arith in
    cond-true (is_digit (48 + d)) (Some (10 * m + (48 + d - 48))) None digit ∙ ap Some value

-- one digit behind others
read_last : (m v d : ℕ) (ds : Bytes) → d < 10 → read_on m ds ≡ Some v → read_on m (ds ++ ((48 + d) ∷ [])) ≡ Some (10 * v + d)
read_last m v d [] low e = let same : m ≡ v = cc in digit_read m d low ∙ ap (λ n. Some (10 * n + d)) same
read_last m v d (b ∷ ds) low e =
    ⊎_elim
    (λ (is : is_digit b ≡ true).
    cond-true (is_digit b) (read_on (10 * m + (b - 48)) (ds ++ ((48 + d) ∷ []))) None is
    ∙ read_last (10 * m + (b - 48)) v d ds low (sym (cond-true (is_digit b) (read_on (10 * m + (b - 48)) ds) None is) ∙ e))
    (λ (is : is_digit b ≡ false).
    let none : None ≡ Some v = sym (cond-false (is_digit b) (read_on (10 * m + (b - 48)) ds) None is) ∙ e in
    let z : ◌≡◌ {A = ℕ} 0 1 = cc in
    absurd (omega arith))
    (cases_Bool (is_digit b))

pub decimal_read : (n : ℕ) → n < 2 ^ 64 → read_on 0 (decimal n) ≡ Some n
decimal_read n small =
    decimal_by_steps (λ m ds. read_on 0 ds ≡ Some m)
    (λ m low. let value : 10 * 0 + m ≡ m = omega arith in digit_read 0 m low ∙ ap Some value)
    (λ m ds high e.
    let value : 10 * (m / 10) + m % 10 ≡ m = omega arith in
    read_last 0 (m / 10) (m % 10) ds (omega arith) e ∙ ap Some value)
    n small

module _ (mark : ℕ) (low : mark < 48) where
  digit_free : (d : ℕ) → is_free_of mark ((48 + d) ∷ []) ≡ true
  digit_free d = ap (λ v. not v && true) (ne_eqb (48 + d) mark (λ e. omega arith))

  pub decimal_free : (n : ℕ) → n < 2 ^ 64 → is_free_of mark (decimal n) ≡ true
  decimal_free n small =
      decimal_by_steps (λ m ds. is_free_of mark ds ≡ true)
      (λ m one. digit_free m)
      (λ m ds high e. list_all-append (λ b. not (eqb b mark)) ds ((48 + m % 10) ∷ []) ∙ and_from (is_free_of mark ds) (is_free_of mark ((48 + m % 10) ∷ [])) e (digit_free (m % 10)))
      n small

-- a number of at most five digits
module _ (n : ℕ) (short : n ≤ 99999) where
  pub few_bytes : length (decimal n) ≤ 5
  few_bytes = length-decimal-le 5 n (omega arith) (omega arith) (omega arith)

  pub numeral_read : number_of (decimal n) ≡ Some n
  numeral_read =
      let some : 0 < length (decimal n) = decimal_nonempty n (omega arith) in
      let long : is_numeral_length (length (decimal n)) ≡ true = and_from (leb 1 (length (decimal n))) (leb (length (decimal n)) 5) (le-leb 1 (length (decimal n)) (omega arith)) (le-leb (length (decimal n)) 5 few_bytes) in
      cond-true (is_numeral_length (length (decimal n))) (read_on 0 (decimal n)) None long ∙ decimal_read n (omega arith)
