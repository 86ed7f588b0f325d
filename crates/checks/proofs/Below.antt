-- Tests of every number below a bound: none, one more, at each, from each, and as the chains of a list or a range.
use Rattle.std.proofs.Common.{◌≡◌, ℕ, zero, suc, ◌+◌, ◌<◌, Bool, true, false, ◌&&◌, List, [], ◌∷◌, length, get_or, sym, refl, ap, ap₂, ◌∙◌, ⊎_elim, add-one, zero-add, arith}
use Rattle.std.proofs.Math.Bool.{and_assoc, and-true}
use Rattle.std.proofs.lemmas.List.FromFn.{length-range_with_len, get_or-range_with_len}
use Rattle.std.proofs.lemmas.Bool.{false≢true, and_parts, and_from, cases_eq, cases_Bool}
use Rattle.std.specs.List.{list_all, range_with_len}
use Rattle.checks.specs.Below.{all_below}

pub all_none : (p : ℕ → Bool) → true ≡ all_below 0 p
unfolding all_below
all_none p = refl

pub all_more : (n : ℕ) (p : ℕ → Bool) → all_below (n + 1) p ≡ (all_below n p && p n)
unfolding all_below
all_more n p = ap (λ k. all_below k p) (add-one n)

pub all_at : (n : ℕ) (p : ℕ → Bool) (i : ℕ) → all_below n p ≡ true → i < n → p i ≡ true
unfolding all_below
all_at zero p i e h = absurd (omega arith)
all_at (suc n) p i e h =
    let parts = and_parts (all_below n p) (p n) e in
    ⊎_elim (λ q. ap p q ∙ parts.1) (λ q. let h' : i < n = omega arith in all_at n p i parts.0 h') (cases_eq i n)

pub all_from : (n : ℕ) (p : ℕ → Bool) → ((i : ℕ) → i < n → p i ≡ true) → all_below n p ≡ true
unfolding all_below
all_from zero p each = refl
all_from (suc n) p each = and_from (all_below n p) (p n) (all_from n p (λ i h. each i (omega arith))) (each n (omega arith))

-- where it does not hold of each, some number tells it
pub all_false : (n : ℕ) (p : ℕ → Bool) → all_below n p ≡ false → (i : ℕ) × (i < n) × (p i ≡ false)
unfolding all_below
all_false zero p e = absurd (false≢true (sym e))
all_false (suc n) p e =
    ⊎_elim
    (λ before. (n, omega arith, sym (ap (λ b. b && p n) before) ∙ e))
    (λ before. let found = all_false n p before in (found.0, (let within : found.0 < n = found.1 in omega arith), found.2))
    (cases_Bool (all_below n p))

-- a turn of a loop that has tested the numbers below n, and now tests n
pub all_step : (n : ℕ) (p : ℕ → Bool) (so_far here : Bool) → so_far ≡ all_below n p → here ≡ p n → (so_far && here) ≡ all_below (n + 1) p
all_step n p so_far here before now = ap (λ b. b && here) before ∙ ap (λ b. all_below n p && b) now ∙ sym (all_more n p)

-- the first number, and then the others
all_first : (n : ℕ) (p : ℕ → Bool) → all_below (suc n) p ≡ (p 0 && all_below n (λ i. p (suc i)))
unfolding all_below
all_first zero p = sym (and-true (p 0))
all_first (suc n) p = ap (λ b. b && p (suc n)) (all_first n p) ∙ and_assoc (p 0) (all_below n (λ i. p (suc i))) (p (suc n))

all_same : (n : ℕ) (p q : ℕ → Bool) → ((i : ℕ) → i < n → p i ≡ q i) → all_below n p ≡ all_below n q
unfolding all_below
all_same zero p q same = refl
all_same (suc n) p q same = ap₂ (λ a b. a && b) (all_same n p q (λ i h. same i (omega arith))) (same n (omega arith))

-- what a chain's `all` answers of a list, by its places, and of the numbers below n
pub all_in_list : {X : Type 0} (p : X → Bool) (d : X) (xs : List X) → list_all p xs ≡ all_below (length xs) (λ i. p (get_or xs i d))
unfolding all_below
all_in_list p d [] = refl
all_in_list p d (x ∷ xs) = ap (λ b. p x && b) (all_in_list p d xs) ∙ sym (all_first (length xs) (λ i. p (get_or (x ∷ xs) i d)))

pub all_in_range : (n : ℕ) (p : ℕ → Bool) → list_all p (range_with_len 0 n) ≡ all_below n p
all_in_range n p =
    let numbers = range_with_len 0 n in
    all_in_list p 0 numbers
    ∙ ap (λ k. all_below k (λ i. p (get_or numbers i 0))) (length-range_with_len 0 n)
    ∙ all_same n (λ i. p (get_or numbers i 0)) p (λ i h. ap p (get_or-range_with_len 0 n i 0 h ∙ zero-add i))
