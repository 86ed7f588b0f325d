-- Answers that agree: as many on both sides, of the same lengths, and the same under a lawful recogniser.
use Rattle.std.proofs.Common.{◌≡◌, ℕ, Bool, true, false, List, [], ◌∷◌, ◌++◌, length, decimal, sym, refl, ap, ◌∙◌, ap₂, arith}
use Rattle.std.proofs.lemmas.List.{length-append, length-map}
use Rattle.std.specs.List.{flat_map}
use Rattle.script.specs.Parts.{Bytes}
use Rattle.listing.specs.Answers.{answer_text, lamp_digit, lamp_text, ended}
use Rattle.runs.specs.Told.{Agree, AllAgree}

-- as many lamps make texts of one length
long_lamps : (lamps others : List Bool) → length lamps ≡ length others → length (lamp_text lamps) ≡ length (lamp_text others)
long_lamps [] [] e = refl
long_lamps [] (o ∷ others) e = absurd (omega arith)
long_lamps (l ∷ lamps) [] e = absurd (omega arith)
long_lamps (l ∷ lamps) (o ∷ others) e = omega (arith, length-map lamps lamp_digit, length-map others lamp_digit)

-- texts of one length behind the same field
long_behind : (s t u : Bytes) → length t ≡ length u → length (s ++ (44 ∷ t)) ≡ length (s ++ (44 ∷ u))
long_behind s t u e = omega (arith, length-append s (44 ∷ t), length-append s (44 ∷ u))

-- texts of one length, each ended
long_ended : (t u : Bytes) → length t ≡ length u → length (ended t) ≡ length (ended u)
long_ended t u e = omega (arith, length-append t (10 ∷ []), length-append u (10 ∷ []))

-- answers with as many lamps are of one length
long_answer : (line number field : ℕ) (lamps others : List Bool) → length lamps ≡ length others → length (answer_text line number field lamps) ≡ length (answer_text line number field others)
long_answer line number field lamps others e =
    long_behind (decimal line) (decimal number ++ (44 ∷ (decimal field ++ (44 ∷ lamp_text lamps)))) (decimal number ++ (44 ∷ (decimal field ++ (44 ∷ lamp_text others))))
    (long_behind (decimal number) (decimal field ++ (44 ∷ lamp_text lamps)) (decimal field ++ (44 ∷ lamp_text others))
    (long_behind (decimal field) (lamp_text lamps) (lamp_text others) (long_lamps lamps others e)))

-- answers that agree are of one length
pub agree_length : (lawful : Bool) (t u : Bytes) → Agree lawful t u → length (ended t) ≡ length (ended u)
agree_length true t u same = ap (λ v. length (ended v)) same
agree_length false t u same = long_ended t u (ap length same.left_is ∙ long_answer same.line same.number same.field same.lamps same.others same.as_many ∙ sym (ap length same.right_is))

-- one answer more on both sides
pub all_agree_more : (lawful : Bool) (ts us : List Bytes) (t u : Bytes) → AllAgree lawful ts us → Agree lawful t u → AllAgree lawful (ts ++ (t ∷ [])) (us ++ (u ∷ []))
all_agree_more lawful [] [] t u all same = (same, tt)
all_agree_more lawful [] (v ∷ us) t u all same = absurd all
all_agree_more lawful (v ∷ ts) [] t u all same = absurd all
all_agree_more lawful (v ∷ ts) (w ∷ us) t u all same = (all.0, all_agree_more lawful ts us t u all.1 same)

-- as many answers on both sides
pub many_agree : (lawful : Bool) (ts us : List Bytes) → AllAgree lawful ts us → length ts ≡ length us
many_agree lawful [] [] all = refl
many_agree lawful [] (v ∷ us) all = absurd all
many_agree lawful (v ∷ ts) [] all = absurd all
many_agree lawful (v ∷ ts) (w ∷ us) all = omega (arith, many_agree lawful ts us all.1)

-- as many bytes on both sides
pub as_long : (lawful : Bool) (ts us : List Bytes) → AllAgree lawful ts us → length (flat_map ended ts) ≡ length (flat_map ended us)
as_long lawful [] [] all = refl
as_long lawful [] (v ∷ us) all = absurd all
as_long lawful (v ∷ ts) [] all = absurd all
as_long lawful (v ∷ ts) (w ∷ us) all =
    omega (arith, length-append (ended v) (flat_map ended ts), length-append (ended w) (flat_map ended us), agree_length lawful v w all.0, as_long lawful ts us all.1)

-- under a lawful recogniser they are the same
pub all_same : (ts us : List Bytes) → AllAgree true ts us → ts ≡ us
all_same [] [] all = refl
all_same [] (v ∷ us) all = absurd all
all_same (v ∷ ts) [] all = absurd all
all_same (v ∷ ts) (w ∷ us) all = ap₂ (λ (l : Bytes) (ls : List Bytes). l ∷ ls) all.0 (all_same ts us all.1)
