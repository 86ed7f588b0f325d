-- Digits read one by one.
use Rattle.std.proofs.Common.{◌≡◌, ℕ, ◌+◌, ◌-◌, ◌*◌, ◌^◌, ◌<◌, ◌≤◌, true, leb, length, None, pow-suc, add-one, arith}
use native.Mathlib.Nat.{pow-le-pow_right}
use Rattle.std.proofs.lemmas.Bool.{leb-true, and_parts, cond-true}
use Rattle.script.specs.Parts.{Bytes}
use Rattle.script.specs.Numbers.{is_digit, is_numeral_length, read_on, number_of}

pub sized : (text : Bytes) → is_numeral_length (length text) ≡ true → number_of text ≡ read_on 0 text
sized text e = cond-true (is_numeral_length (length text)) (read_on 0 text) None e

pub few_digits : (n : ℕ) → is_numeral_length n ≡ true → n ≤ 5
few_digits n e = let p = and_parts (leb 1 n) (leb n 5) e in leb-true n 5 p.1

pub digit_small : (b : ℕ) → is_digit b ≡ true → b - 48 ≤ 9
digit_small b e = let p = and_parts (leb 48 b) (leb b 57) e in omega (arith, leb-true b 57 p.1)

-- one digit more of a number below a power of ten
pub grows : (n i d : ℕ) → n < 10 ^ i → d ≤ 9 → 10 * n + d < 10 ^ (i + 1)
grows n i d h k = rw (add-one, pow-suc) (omega arith)

pub small : (n i : ℕ) → n < 10 ^ i → i ≤ 5 → n < 100000
small n i h k = let p : 10 ^ i ≤ 10 ^ 5 = pow-le-pow_right (omega arith) k in omega arith
