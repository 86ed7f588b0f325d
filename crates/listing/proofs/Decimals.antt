-- The digits of a number, set from the last.
use Rattle.std.proofs.Common.{◌≡◌, ℕ, ◌+◌, ◌/◌, ◌%◌, ◌^◌, ◌<◌, ◌≤◌, List, [], ◌∷◌, ◌++◌, length, get_or, take, drop, set, decimal, sym, ap, ◌∙◌, ⊎_elim, arith}
use Rattle.std.proofs.lemmas.Fmt.{decimal_step, length-decimal-le, decimal_digit}
use Rattle.std.proofs.lemmas.List.{same_from_push, length_push, append_assoc, take_more, drop_more, set_at, length-take-le}
use Rattle.std.proofs.lemmas.Bool.{cases_lt}

-- a number of 32 bits has at most 10 digits
pub most_digits : (n : ℕ) → n < 2 ^ 32 → length (decimal n) ≤ 10
most_digits n h = length-decimal-le 10 n (omega arith) (omega arith) (omega arith)

-- one digit more than the number without its last one
pub one_more : (n : ℕ) → 10 ≤ n → n < 2 ^ 64 → length (decimal n) ≡ length (decimal (n / 10)) + 1
one_more n h k = ap length (decimal_step n h k) ∙ length_push (decimal (n / 10)) (48 + n % 10)

pub one_digit : (n : ℕ) → n < 10 → length (decimal n) ≡ 1
one_digit n h = ap length (decimal_digit n h)

-- the output once the digits from `left` on stand in their places from `at` on
abbrev pub partly : List ℕ → ℕ → List ℕ → ℕ → List ℕ
partly out at ds left = take (at + left) out ++ (drop left ds ++ drop (at + length ds) out)

-- one digit more, set before the others
pub partly_more : (out ds : List ℕ) (at left v : ℕ) → left < length ds → at + length ds ≤ length out → get_or ds left 0 ≡ v
    → set (partly out at ds (left + 1)) (at + left) v ≡ partly out at ds left
partly_more out ds at left v low fits same =
    let inside : at + left < length out = omega arith in
    let tail : List ℕ = drop (left + 1) ds ++ drop (at + length ds) out in
    let e1 : take (at + left + 1) out ≡ take (at + left) out ++ (get_or out (at + left) 0 ∷ []) = take_more out (at + left) 0 inside in
    let e0 : at + (left + 1) ≡ at + left + 1 = omega arith in
    let e2 : partly out at ds (left + 1) ≡ take (at + left) out ++ (get_or out (at + left) 0 ∷ tail) =
    ap (λ k. take k out ++ tail) e0 ∙ ap (λ t. t ++ tail) e1 ∙ append_assoc (take (at + left) out) (get_or out (at + left) 0 ∷ []) tail in
    let e3 : drop left ds ≡ get_or ds left 0 ∷ drop (left + 1) ds = drop_more ds left 0 low in
    ap (λ l. set l (at + left) v) e2
    ∙ set_at (take (at + left) out) (get_or out (at + left) 0) tail v (at + left) (length-take-le (at + left) out (omega arith))
    ∙ ap (λ x. take (at + left) out ++ (x ∷ tail)) (sym same)
    ∙ ap (λ t. take (at + left) out ++ (t ++ drop (at + length ds) out)) (sym e3)

-- the last of the first digits, where those are the digits of `rest`, and the digits before it
pub split_digits : (ds : List ℕ) (left rest : ℕ) → left < length ds → rest < 2 ^ 64 → take (left + 1) ds ≡ decimal rest
    → (get_or ds left 0 ≡ 48 + rest % 10) × (0 < left → take left ds ≡ decimal (rest / 10))
split_digits ds left rest low fits same =
    let e : take left ds ++ (get_or ds left 0 ∷ []) ≡ decimal rest = sym (take_more ds left 0 low) ∙ same in
    ⊎_elim
    (λ (h : rest < 10).
    let p = same_from_push (take left ds) [] (get_or ds left 0) (48 + rest) (e ∙ decimal_digit rest h) in
    let long : length (take left ds) ≡ left = length-take-le left ds (omega arith) in
    let none : length (take left ds) ≡ 0 = ap length p.0 in
    (p.1 ∙ omega arith, λ some. absurd (omega arith)))
    (λ (h : 10 ≤ rest).
    let p = same_from_push (take left ds) (decimal (rest / 10)) (get_or ds left 0) (48 + rest % 10) (e ∙ decimal_step rest h fits) in
    (p.1, λ _. p.0))
    (cases_lt rest 10)
