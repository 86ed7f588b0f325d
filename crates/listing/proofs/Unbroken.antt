-- Texts with no byte 10 within: each is one line once it is ended.
use Rattle.std.proofs.Common.{◌≡◌, ℕ, zero, suc, ◌+◌, ◌/◌, ◌%◌, ◌≤◌, Bool, true, false, eqb, ltb, List, [], ◌∷◌, ◌++◌, map, decimal, sym, refl, ap, ◌∙◌, arith}
use Rattle.std.proofs.lemmas.List.{append-nil}
use Rattle.std.proofs.lemmas.Bool.{cond_both, ne_eqb}
use Rattle.std.specs.Fmt.{digit_glyph, digits_onto, digits}
use Rattle.script.proofs.Parting.{parted_other}
use Rattle.script.specs.Lines.{newline, lines}
use Rattle.script.specs.Parts.{Bytes, onto}
use Rattle.listing.specs.declared.answer.Answer.{Answer}
use Rattle.listing.specs.Answers.{lamp_digit, lamp_text, answer_text, ended, lamps_shown, text_of, bytes_of}

abbrev pub Unbroken : Bytes → Type 0
Unbroken [] = Unit {0}
Unbroken (b ∷ bs) = (11 ≤ b) × Unbroken bs

pub unbroken_append : (s t : Bytes) → Unbroken s → Unbroken t → Unbroken (s ++ t)
unbroken_append [] t p q = q
unbroken_append (b ∷ s) t p q = (p.0, unbroken_append s t p.1 q)

glyph_high : (d : ℕ) → 11 ≤ digit_glyph false d
glyph_high d = cond_both (ltb d 10) (48 + d) (87 + d) (λ n. 11 ≤ n) (λ e. omega arith) (λ e. omega arith)

unbroken_spelled : (k n : ℕ) (acc : Bytes) → Unbroken acc → Unbroken (digits_onto k 10 false n acc)
unbroken_spelled zero n acc h = h
unbroken_spelled (suc k) n acc h =
    let more : Unbroken (digit_glyph false (n % 10) ∷ acc) = (glyph_high (n % 10), h) in
    cond_both (eqb (n / 10) 0) (digit_glyph false (n % 10) ∷ acc) (digits_onto k 10 false (n / 10) (digit_glyph false (n % 10) ∷ acc)) Unbroken (λ e. more) (λ e. unbroken_spelled k (n / 10) (digit_glyph false (n % 10) ∷ acc) more)

unbroken_decimal : (n : ℕ) → Unbroken (decimal n)
unfolding digits
unbroken_decimal n = unbroken_spelled 64 n [] tt

unbroken_digits : (lamps : List Bool) → Unbroken (map lamp_digit lamps)
unbroken_digits [] = tt
unbroken_digits (true ∷ lamps) = (omega arith, unbroken_digits lamps)
unbroken_digits (false ∷ lamps) = (omega arith, unbroken_digits lamps)

unbroken_lamps : (lamps : List Bool) → Unbroken (lamp_text lamps)
unbroken_lamps [] = (omega arith, tt)
unbroken_lamps (lit ∷ lamps) = unbroken_digits (lit ∷ lamps)

pub unbroken_answer : (line number field : ℕ) (lamps : List Bool) → Unbroken (answer_text line number field lamps)
unbroken_answer line number field lamps =
    unbroken_append (decimal line) (44 ∷ (decimal number ++ (44 ∷ (decimal field ++ (44 ∷ lamp_text lamps))))) (unbroken_decimal line) (
      omega arith,
      unbroken_append (decimal number) (44 ∷ (decimal field ++ (44 ∷ lamp_text lamps))) (unbroken_decimal number)
          (omega arith, unbroken_append (decimal field) (44 ∷ lamp_text lamps) (unbroken_decimal field) (omega arith, unbroken_lamps lamps)),
    )

-- such a text, ended, is the first line of what it stands before
pub lines-ended : (text rest : Bytes) → Unbroken text → lines (ended text ++ rest) ≡ text ∷ lines rest
lines-ended [] rest h = refl
lines-ended (b ∷ text) rest h =
    parted_other newline b (ended text ++ rest) [] (ne_eqb b newline (λ e. omega arith)) ∙ ap (onto b) (lines-ended text rest h.1)

-- so the bytes of an answer are one line
pub one_line : (a : Answer) → lines (bytes_of a) ≡ text_of a ∷ []
one_line a =
    ap lines (sym (append-nil (bytes_of a)))
    ∙ lines-ended (text_of a) [] (unbroken_answer a.line a.number a.field (lamps_shown a.lamps))
