-- The bits of a number as eight rows of eight: one pair's bit, a row as another row, a column as another column.
use Rattle.std.proofs.Common.{◌≡◌, ℕ, ◌+◌, ◌-◌, ◌*◌, ◌/◌, ◌%◌, ◌^◌, ◌<◌, ◌≤◌, Bool, true, false, ◌&&◌, eqb, sym, refl, ap, ◌∙◌, ap₂, ⊎_elim, arith}
use lib.Bits.{bit_and, and_mask}
use Rattle.std.proofs.lemmas.Bool.{eq-eqb, ne_eqb, cases_lt, cases_eq, cases_order, and_left, and_right, and_from}
use Rattle.pairs.specs.Bits.{bit, packed}
use Rattle.pairs.proofs.Bits.{bit-mod, bit_past, bit-shl, bit_under, bit-shr, bit-and, bit_one, packed-bit}

-- places are equal where rows and columns are
place-eq : (i j x y : ℕ) → j < 8 → y < 8 → eqb (8 * i + j) (8 * x + y) ≡ (eqb x i && eqb y j)
place-eq i j x y hj hy =
    ⊎_elim
    (λ (q : 8 * i + j ≡ 8 * x + y). eq-eqb (8 * i + j) (8 * x + y) q ∙ sym (and_from (eqb x i) (eqb y j) (eq-eqb x i (omega arith)) (eq-eqb y j (omega arith))))
    (λ q.
    ne_eqb (8 * i + j) (8 * x + y) q
    ∙ ⊎_elim
    (λ (e : x ≡ i). sym (and_right (eqb x i) (eqb y j) (ne_eqb y j (λ f. q (omega arith)))))
    (λ e. sym (and_left (eqb x i) (eqb y j) (ne_eqb x i e)))
    (cases_eq x i))
    (cases_eq (8 * i + j) (8 * x + y))

pub single_bit : (i j x y : ℕ) → j < 8 → x < 8 → y < 8 → bit (1 * 2 ^ (8 * i + j) % 2 ^ 64) (8 * x + y) ≡ (eqb x i && eqb y j)
single_bit i j x y hj hx hy = bit-mod (1 * 2 ^ (8 * i + j)) 64 (8 * x + y) (omega arith) ∙ bit_one (8 * i + j) (8 * x + y) ∙ place-eq i j x y hj hy

pub row_bit : (n from to i j : ℕ) → i < 8 → j < 8 → bit (bit_and (n / 2 ^ (8 * from)) 255 * 2 ^ (8 * to) % 2 ^ 64) (8 * i + j) ≡ (eqb i to && bit n (8 * from + j))
row_bit n from to i j hi hj =
    let r : ℕ = n / 2 ^ (8 * from) in
    let here : Bool = bit n (8 * from + j) in
    let low : bit (bit_and r 255 * 2 ^ (8 * to) % 2 ^ 64) (8 * i + j) ≡ bit (bit_and r 255 * 2 ^ (8 * to)) (8 * i + j) = bit-mod (bit_and r 255 * 2 ^ (8 * to)) 64 (8 * i + j) (omega arith) in
    let at : (k : ℕ) → 8 * i + j ≡ 8 * to + k → bit (bit_and r 255 * 2 ^ (8 * to) % 2 ^ 64) (8 * i + j) ≡ bit (r % 2 ^ 8) k =
    λ k e. low ∙ ap₂ (λ a b. bit (a * 2 ^ (8 * to)) b) (and_mask r 8) e ∙ bit-shl (r % 2 ^ 8) (8 * to) k in
    let no : (i ≡ to → ⊥) → false ≡ (eqb i to && here) = λ q. sym (and_left (eqb i to) here (ne_eqb i to q)) in
    ⊎_elim
    (λ (q : i ≡ to). at j (omega arith) ∙ bit-mod r 8 j hj ∙ bit-shr n (8 * from) j ∙ ap (λ b. b && here) (sym (eq-eqb i to q)))
    (⊎_elim
    (λ (q : i < to). low ∙ bit_under (bit_and r 255) (8 * to) (8 * i + j) (omega arith) ∙ no (λ e. omega arith))
    (λ (q : to < i). at (8 * (i - to) + j) (omega arith) ∙ bit_past r 8 (8 * (i - to) + j) (omega arith) ∙ no (λ e. omega arith)))
    (cases_order i to)

and-true : (b : Bool) → (b && true) ≡ b
and-true true = refl
and-true false = refl

-- the bits of the first column
column_bit : (k : ℕ) → k < 64 → bit 0x0101_0101_0101_0101 k ≡ eqb (k % 8) 0
unfolding packed
column_bit k h = packed-bit 64 (λ k. eqb (k % 8) 0) k h

pub column_as_bit : (n from to i j : ℕ) → to < 8 → i < 8 → j < 8 → bit (bit_and (n / 2 ^ from) 0x0101_0101_0101_0101 * 2 ^ to % 2 ^ 64) (8 * i + j) ≡ (eqb j to && bit n (8 * i + from))
column_as_bit n from to i j hto hi hj =
    let r : ℕ = bit_and (n / 2 ^ from) 0x0101_0101_0101_0101 in
    let here : Bool = bit n (8 * i + from) in
    let low : bit (r * 2 ^ to % 2 ^ 64) (8 * i + j) ≡ bit (r * 2 ^ to) (8 * i + j) = bit-mod (r * 2 ^ to) 64 (8 * i + j) (omega arith) in
    let at : (k : ℕ) → 8 * i + j ≡ to + k → bit (r * 2 ^ to % 2 ^ 64) (8 * i + j) ≡ (bit n (from + k) && eqb (k % 8) 0) =
    λ k e. low ∙ ap (bit (r * 2 ^ to)) e ∙ bit-shl r to k ∙ bit-and (n / 2 ^ from) 0x0101_0101_0101_0101 k ∙ ap₂ (λ a b. a && b) (bit-shr n from k) (column_bit k (omega arith)) in
    ⊎_elim
    (λ (q : j ≡ to). at (8 * i) (omega arith) ∙ ap₂ (λ a b. bit n a && b) (omega arith) (eq-eqb (8 * i % 8) 0 (omega arith)) ∙ and-true here ∙ ap (λ b. b && here) (sym (eq-eqb j to q)))
    (λ q.
    let no : false ≡ (eqb j to && here) = sym (and_left (eqb j to) here (ne_eqb j to q)) in
    ⊎_elim
    (λ (l : 8 * i + j < to). low ∙ bit_under r to (8 * i + j) l ∙ no)
    (λ (l : to ≤ 8 * i + j). let k : ℕ = 8 * i + j - to in at k (omega arith) ∙ and_right (bit n (from + k)) (eqb (k % 8) 0) (ne_eqb (k % 8) 0 (λ e. q (omega arith))) ∙ no)
    (cases_lt (8 * i + j) to))
    (cases_eq j to)
