-- The bits of a number under or, and, shifts and remainders, and of a number that is packed from bits.
use Rattle.std.proofs.Common.{◌≡◌, ℕ, zero, suc, ◌+◌, ◌-◌, ◌*◌, ◌/◌, ◌%◌, ◌^◌, ◌<◌, ◌≤◌, Bool, true, false, cond, ◌&&◌, ◌||◌, eqb, ◌⊎◌, sym, refl, ap, ◌∙◌, subst, inl, inr, ⊎_elim, not-suc-le-zero, mod-lt, mul_assoc, pow-suc, div-one, add-one, arith, pow_pos, pow_mono, pow-add, shr-shr, shr_lt}
use native.Mathlib.Nat.{div-eq_of_lt}
use lib.Bits.{bit_and, bit_or, or_shr, or_mod, and_shr, and_mod, shifted_even}
use lib.Pow.{shl-shr, pow-lt, field, mod-mod-pow, high, low}
use Rattle.std.proofs.lemmas.Bool.{eq-eqb, ne_eqb, cases_lt, cases_eq, cases_order, true≢false, false≢true}
use Rattle.pairs.specs.Bits.{bit, packed}

-- a digit is 0 or 1
digit : (n : ℕ) → (n % 2 ≡ 0) ⊎ (n % 2 ≡ 1)
digit n = let h : n % 2 < 2 = mod-lt n (omega arith) in ⊎_elim (λ q. inl (omega arith)) (λ q. inr (omega arith)) (cases_lt (n % 2) 1)

-- what holds of the four pairs of digits
by_digits : (P : ℕ → ℕ → Type 0) → P 0 0 → P 0 1 → P 1 0 → P 1 1 → (x y : ℕ) → P (x % 2) (y % 2)
by_digits P p00 p01 p10 p11 x y =
    let row : (a : ℕ) → P a 0 → P a 1 → P a (y % 2) = λ a p q. ⊎_elim (λ e. subst (P a) (sym e) p) (λ e. subst (P a) (sym e) q) (digit y) in
    ⊎_elim (λ e. subst (λ a. P a (y % 2)) (sym e) (row 0 p00 p01)) (λ e. subst (λ a. P a (y % 2)) (sym e) (row 1 p10 p11)) (digit x)

digit_or : (x y : ℕ) → eqb (bit_or (x % 2) (y % 2)) 1 ≡ (eqb (x % 2) 1 || eqb (y % 2) 1)
digit_or = by_digits (λ a b. eqb (bit_or a b) 1 ≡ (eqb a 1 || eqb b 1)) refl refl refl refl

digit_and : (x y : ℕ) → eqb (bit_and (x % 2) (y % 2)) 1 ≡ (eqb (x % 2) 1 && eqb (y % 2) 1)
digit_and = by_digits (λ a b. eqb (bit_and a b) 1 ≡ (eqb a 1 && eqb b 1)) refl refl refl refl

digit_eq : (x y : ℕ) → eqb (x % 2) 1 ≡ eqb (y % 2) 1 → x % 2 ≡ y % 2
digit_eq = by_digits (λ a b. eqb a 1 ≡ eqb b 1 → a ≡ b) (λ h. refl) (λ h. absurd (false≢true h)) (λ h. absurd (true≢false h)) (λ h. refl)

pub bit-or : (a b k : ℕ) → bit (bit_or a b) k ≡ (bit a k || bit b k)
unfolding bit
bit-or a b k = ap (λ n. eqb (n % 2) 1) (or_shr a b k) ∙ ap (λ n. eqb n 1) (or_mod (a / 2 ^ k) (b / 2 ^ k) 1) ∙ digit_or (a / 2 ^ k) (b / 2 ^ k)

pub bit-and : (a b k : ℕ) → bit (bit_and a b) k ≡ (bit a k && bit b k)
unfolding bit
bit-and a b k = ap (λ n. eqb (n % 2) 1) (and_shr a b k) ∙ ap (λ n. eqb n 1) (and_mod (a / 2 ^ k) (b / 2 ^ k) 1) ∙ digit_and (a / 2 ^ k) (b / 2 ^ k)

pub bit-shr : (n j k : ℕ) → bit (n / 2 ^ j) k ≡ bit n (j + k)
unfolding bit
bit-shr n j k = ap (λ m. eqb (m % 2) 1) (shr-shr n j k)

pub bit_small : (n k : ℕ) → n < 2 ^ k → bit n k ≡ false
unfolding bit
bit_small n k h = ap (λ m. eqb (m % 2) 1) (div-eq_of_lt h)

-- the w low bits
pub bit-mod : (n w k : ℕ) → k < w → bit (n % 2 ^ w) k ≡ bit n k
unfolding bit
bit-mod n w k h =
    let d : ℕ = w - (k + 1) in
    let e : w ≡ (d + 1) + k = omega arith in
    ap (λ v. eqb (n % 2 ^ v / 2 ^ k % 2) 1) e ∙ ap (λ m. eqb (m % 2) 1) (field n (d + 1) k) ∙ ap (λ m. eqb m 1) (mod-mod-pow (n / 2 ^ k) d 1)

pub bit_past : (n w k : ℕ) → w ≤ k → bit (n % 2 ^ w) k ≡ false
bit_past n w k h = let l : n % 2 ^ w < 2 ^ w = mod-lt n (pow_pos w) in bit_small (n % 2 ^ w) k (omega (arith, pow_mono {i = w} {j = k} h))

pub bit-shl : (n j k : ℕ) → bit (n * 2 ^ j) (j + k) ≡ bit n k
unfolding bit
bit-shl n j k = ap (λ m. eqb (m % 2) 1) (sym (shr-shr (n * 2 ^ j) j k) ∙ ap (λ m. m / 2 ^ k) (shl-shr n j))

pub bit_under : (n j k : ℕ) → k < j → bit (n * 2 ^ j) k ≡ false
unfolding bit
bit_under n j k h =
    let d : ℕ = j - (k + 1) in
    let e : j ≡ suc d + k = omega arith in
    ap (λ v. eqb (n * 2 ^ v / 2 ^ k % 2) 1) e
    ∙ ap (λ p. eqb (n * p / 2 ^ k % 2) 1) (pow-add 2 (suc d) k)
    ∙ ap (λ m. eqb (m / 2 ^ k % 2) 1) (sym (mul_assoc n (2 ^ suc d) (2 ^ k)))
    ∙ ap (λ m. eqb (m % 2) 1) (shl-shr (n * 2 ^ suc d) k)
    ∙ ap (λ m. eqb m 1) (shifted_even n d)

-- one bit
pub bit_one : (m k : ℕ) → bit (1 * 2 ^ m) k ≡ eqb m k
unfolding bit
bit_one m k =
    let place : (d : ℕ) → k ≡ m + d → bit (1 * 2 ^ m) k ≡ bit 1 d = λ d e. ap (bit (1 * 2 ^ m)) e ∙ bit-shl 1 m d in
    ⊎_elim
    (λ (q : m ≡ k). place 0 (omega arith) ∙ sym (eq-eqb m k q))
    (⊎_elim
    (λ (q : m < k). place (k - m) (omega arith) ∙ bit_small 1 (k - m) (pow-lt {i = 0} {j = k - m} (omega arith)) ∙ sym (ne_eqb m k (λ e. omega arith)))
    (λ (q : k < m). bit_under 1 m k q ∙ sym (ne_eqb m k (λ e. omega arith))))
    (cases_order m k)

pub bit-none : (k : ℕ) → bit 0 k ≡ false
bit-none k = bit_small 0 k (pow_pos k)

-- numbers of w bits are equal when their bits are
low_bits : (a b : ℕ) → bit a 0 ≡ bit b 0 → a % 2 ≡ b % 2
unfolding bit
low_bits a b h = digit_eq a b (ap (λ n. eqb (n % 2) 1) (sym (div-one a)) ∙ h ∙ ap (λ n. eqb (n % 2) 1) (div-one b))

pub same_bits : (w a b : ℕ) → a < 2 ^ w → b < 2 ^ w → ((k : ℕ) → k < w → bit a k ≡ bit b k) → a ≡ b
same_bits zero a b ha hb h = omega arith
same_bits (suc w) a b ha hb h =
    let ha' : a / 2 < 2 ^ w = shr_lt {n = a} w 1 (rw add-one ha) in
    let hb' : b / 2 < 2 ^ w = shr_lt {n = b} w 1 (rw add-one hb) in
    let high : a / 2 ≡ b / 2 = same_bits w (a / 2) (b / 2) ha' hb' (λ k l. bit-shr a 1 k ∙ h (1 + k) (omega arith) ∙ sym (bit-shr b 1 k)) in
    let low : a % 2 ≡ b % 2 = low_bits a b (h 0 (omega arith)) in
    omega arith

-- what is packed
pub packed_lt : (n : ℕ) (p : ℕ → Bool) → packed n p < 2 ^ n
unfolding packed
packed_lt zero p = omega arith
packed_lt (suc n) p = rw pow-suc (elim (p n) as (λ (b : Bool). cond b 1 0 * 2 ^ n + packed n p < 2 ^ n * 2) [ true ↦ omega (arith, packed_lt n p) | false ↦ omega (arith, packed_lt n p) ])

told : (b : Bool) → eqb (cond b 1 0 % 2) 1 ≡ b
told true = refl
told false = refl

pub packed-bit : (n : ℕ) (p : ℕ → Bool) (k : ℕ) → k < n → bit (packed n p) k ≡ p k
unfolding packed bit
packed-bit zero p k h = absurd (not-suc-le-zero h)
packed-bit (suc n) p k h =
    let c : ℕ = cond (p n) 1 0 in
    let r : ℕ = packed n p in
    ⊎_elim
    (λ (q : k ≡ n). ap (bit (c * 2 ^ n + r)) q ∙ ap (λ m. eqb (m % 2) 1) (high c n {lo = r} (packed_lt n p)) ∙ told (p n) ∙ ap p (sym q))
    (λ q. let l : k < n = omega arith in sym (bit-mod (c * 2 ^ n + r) n k l) ∙ ap (λ m. bit m k) (low c n {lo = r} (packed_lt n p)) ∙ packed-bit n p k l)
    (cases_eq k n)
