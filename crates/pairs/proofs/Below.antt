-- Some number below a bound: none, one more, a witness in, a witness out, and what a search answers.
use Rattle.std.proofs.Common.{◌≡◌, ℕ, zero, suc, ◌+◌, ◌<◌, Bool, true, false, ◌&&◌, ◌||◌, length, get_or, sym, refl, ap, ap₂, ◌∙◌, subst, ⊎_elim, add-one, arith}
use Rattle.std.proofs.lemmas.Bool.{both_ways, cases_Bool, cases_eq, or_cases, or_left, or_right}
use Rattle.std.specs.Bool.{MatchBool}
use Rattle.std.specs.List.{range_with_len, HoldsAt, AllWithin}
use Rattle.std.proofs.lemmas.List.FromFn.{length-range_with_len, get_or-range_with_len}
use Rattle.pairs.specs.Below.{some_below}

pub some-none : (p : ℕ → Bool) → false ≡ some_below 0 p
unfolding some_below
some-none p = refl

pub some_more : (n : ℕ) (p : ℕ → Bool) → some_below (n + 1) p ≡ (some_below n p || p n)
unfolding some_below
some_more n p = ap (λ k. some_below k p) (add-one n)

pub some_in : (n : ℕ) (p : ℕ → Bool) (k : ℕ) → k < n → p k ≡ true → some_below n p ≡ true
unfolding some_below
some_in zero p k h e = absurd (omega arith)
some_in (suc n) p k h e =
    ⊎_elim
    (λ (q : k ≡ n). or_right (some_below n p) (p n) (ap p (sym q) ∙ e))
    (λ q. or_left (some_below n p) (p n) (some_in n p k (omega arith) e))
    (cases_eq k n)

pub some_out : (n : ℕ) (p : ℕ → Bool) → some_below n p ≡ true → (k : ℕ) × (k < n) × (p k ≡ true)
unfolding some_below
some_out zero p e = absurd (both_ways false refl e)
some_out (suc n) p e =
    ⊎_elim
    (λ h. let r = some_out n p h in let lt : r.0 < suc n = omega arith in (r.0, lt, r.2))
    (λ h. let lt : n < suc n = omega arith in (n, lt, h))
    (or_cases (some_below n p) (p n) e)

-- what a search of the numbers below n answers, that tells a number's test where it is below n
pub any_told : (n : ℕ) (p : ℕ → Bool) (r : Bool) → MatchBool r ((k : ℕ) × (k < length (range_with_len 0 n)) × HoldsAt (λ i. i < n → p i ≡ true) (range_with_len 0 n) k) (AllWithin (λ i. i < n → p i ≡ false) (range_with_len 0 n) 0 (length (range_with_len 0 n))) → r ≡ some_below n p
any_told n p true found =
    let k = found.0 in
    let below : k < n = omega (arith, found.1, length-range_with_len 0 n) in
    let at : get_or (range_with_len 0 n) k 0 ≡ k = omega (arith, get_or-range_with_len 0 n k 0 below) in
    sym (some_in n p k below (subst (λ i. i < n → p i ≡ true) at (found.2 0) below))
any_told n p false none =
    ⊎_elim
    (λ e.
    let it = some_out n p e in
    let k = it.0 in
    let at : get_or (range_with_len 0 n) k 0 ≡ k = omega (arith, get_or-range_with_len 0 n k 0 it.1) in
    absurd (both_ways (p k) (subst (λ i. i < n → p i ≡ false) at (none k 0 (omega arith) (omega (arith, it.1, length-range_with_len 0 n))) it.1) it.2))
    (λ e. sym e)
    (cases_Bool (some_below n p))

-- a turn of a loop that has tried two tests at the numbers below n, and now tries them at n
pub some-step : (n : ℕ) (p q : ℕ → Bool) (so_far here there : Bool) → so_far ≡ some_below n (λ k. p k && q k) → here ≡ p n → there ≡ q n → (so_far || (here && there)) ≡ some_below (n + 1) (λ k. p k && q k)
some-step n p q so_far here there before here_is there_is =
    ap₂ (λ a b. a || b) before (ap₂ (λ a b. a && b) here_is there_is) ∙ sym (some_more n (λ k. p k && q k))
