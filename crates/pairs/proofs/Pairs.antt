-- Sets of pairs by their members: what is in a set, sets with the same members, and the laws of joining.
use Rattle.std.proofs.Common.{◌≡◌, ℕ, ◌+◌, ◌*◌, ◌/◌, ◌%◌, ◌^◌, ◌<◌, Bool, true, false, ◌&&◌, ◌||◌, eqb, ltb, ◌⊎◌, sym, refl, ap, ◌∙◌, subst, ap₂, ⊎_elim, mod-lt, arith, pow_pos}
use lib.Bits.{bit_or, or_lt}
use Rattle.std.proofs.lemmas.Bool.{ltb-true, lt-ltb, eqb-true, eq-eqb, and_parts, and_from, or_cases, or_left, or_right, both_ways, cases_Bool}
use Rattle.pairs.specs.declared.pair_set.PairSet.{PairSet}
use Rattle.pairs.specs.Bits.{bit}
use Rattle.pairs.specs.Pairs.{holds, gathered, none, only, joined, within, SameMembers}
use Rattle.pairs.proofs.Bits.{bit-or, same_bits, packed_lt, packed-bit}
use Rattle.pairs.proofs.Grid.{single_bit}

abbrev pub In : PairSet → ℕ → ℕ → Type 0
In s i j = holds s i j ≡ true

abbrev pub Fits : PairSet → Type 0
Fits s = s.bits < 2 ^ 64

abbrev pub set_of : ℕ → PairSet
set_of n = record { bits = n }

pub holds-bit : (s : PairSet) (i j : ℕ) → i < 8 → j < 8 → holds s i j ≡ bit s.bits (8 * i + j)
unfolding holds
holds-bit s i j hi hj = ap (λ b. b && bit s.bits (8 * i + j)) (and_from (ltb i 8) (ltb j 8) (lt-ltb i 8 hi) (lt-ltb j 8 hj))

pub in_first : (s : PairSet) (i j : ℕ) → In s i j → i < 8
unfolding holds
in_first s i j e = ltb-true i 8 (and_parts (ltb i 8) (ltb j 8) (and_parts (ltb i 8 && ltb j 8) (bit s.bits (8 * i + j)) e).0).0

pub in_second : (s : PairSet) (i j : ℕ) → In s i j → j < 8
unfolding holds
in_second s i j e = ltb-true j 8 (and_parts (ltb i 8) (ltb j 8) (and_parts (ltb i 8 && ltb j 8) (bit s.bits (8 * i + j)) e).0).1

false-unless : (b : Bool) → (b ≡ true → ⊥) → false ≡ b
false-unless b never = ⊎_elim (λ e. absurd (never e)) (λ e. sym e) (cases_Bool b)

pub outside : (s : PairSet) (i j : ℕ) → (i < 8 → j < 8 → ⊥) → holds s i j ≡ false
outside s i j out = sym (false-unless (holds s i j) (λ e. out (in_first s i j e) (in_second s i j e)))

bool_ext : (a b : Bool) → (a ≡ true → b ≡ true) → (b ≡ true → a ≡ true) → a ≡ b
bool_ext true b f g = sym (f refl)
bool_ext false true f g = g refl
bool_ext false false f g = refl

-- sets with the same bits at every pair, or each with the members of the other, are equal
same_at : (s t : PairSet) → Fits s → Fits t → ((i j : ℕ) → i < 8 → j < 8 → bit s.bits (8 * i + j) ≡ bit t.bits (8 * i + j)) → s ≡ t
same_at s t hs ht h =
    let place : (k : ℕ) → k ≡ 8 * (k / 8) + k % 8 = λ k. omega arith in
    let e : s.bits ≡ t.bits = same_bits 64 s.bits t.bits hs ht (λ k l. ap (bit s.bits) (place k) ∙ h (k / 8) (k % 8) (omega arith) (omega arith) ∙ ap (bit t.bits) (sym (place k))) in
    ap set_of e

pub same_members_lem : (s t : PairSet) → Fits s → Fits t → SameMembers s t → s ≡ t
same_members_lem s t hs ht same = same_at s t hs ht (λ i j hi hj. sym (holds-bit s i j hi hj) ∙ same i j ∙ holds-bit t i j hi hj)

pub same_sets : (s t : PairSet) → Fits s → Fits t → ((i j : ℕ) → In s i j → In t i j) → ((i j : ℕ) → In t i j → In s i j) → s ≡ t
same_sets s t hs ht f g = same_members_lem s t hs ht (λ i j. bool_ext (holds s i j) (holds t i j) (f i j) (g i j))

-- the set of the pairs that pass a test
module _ (p : ℕ → ℕ → Bool) where
  pub gathered-fits : Fits (gathered p)
  unfolding gathered
  gathered-fits = packed_lt 64 (λ k. p (k / 8) (k % 8))

  gathered-bit : (i j : ℕ) → i < 8 → j < 8 → bit (gathered p).bits (8 * i + j) ≡ p i j
  unfolding gathered
  gathered-bit i j hi hj = packed-bit 64 (λ k. p (k / 8) (k % 8)) (8 * i + j) (omega arith) ∙ ap₂ p (omega arith) (omega arith)

  pub gathered-holds : (i j : ℕ) → i < 8 → j < 8 → holds (gathered p) i j ≡ p i j
  gathered-holds i j hi hj = holds-bit (gathered p) i j hi hj ∙ gathered-bit i j hi hj

  pub gathered_in : (i j : ℕ) → i < 8 → j < 8 → p i j ≡ true → In (gathered p) i j
  gathered_in i j hi hj e = gathered-holds i j hi hj ∙ e

  pub gathered-out : (i j : ℕ) → In (gathered p) i j → p i j ≡ true
  gathered-out i j e = sym (gathered-holds i j (in_first (gathered p) i j e) (in_second (gathered p) i j e)) ∙ e

  -- a number whose bits the test tells
  pub gathered_is : (n : ℕ) → n < 2 ^ 64 → ((i j : ℕ) → i < 8 → j < 8 → bit n (8 * i + j) ≡ p i j) → set_of n ≡ gathered p
  gathered_is n fits told = same_at (set_of n) (gathered p) fits gathered-fits (λ i j hi hj. told i j hi hj ∙ sym (gathered-bit i j hi hj))

-- tests that agree on indexes below eight gather the same set
pub gathered_same : (p q : ℕ → ℕ → Bool) → ((i j : ℕ) → i < 8 → j < 8 → p i j ≡ q i j) → gathered p ≡ gathered q
gathered_same p q same =
    same_at (gathered p) (gathered q) (gathered-fits p) (gathered-fits q) (λ i j hi hj. gathered-bit p i j hi hj ∙ same i j hi hj ∙ sym (gathered-bit q i j hi hj))

pub not_in_none : (i j : ℕ) → In none i j → ⊥
not_in_none i j e = both_ways false refl (gathered-out (λ i j. false) i j e)

pub none-holds : (i j : ℕ) → holds none i j ≡ false
none-holds i j = sym (false-unless (holds none i j) (not_in_none i j))

pub only_in : (i j : ℕ) → i < 8 → j < 8 → In (only i j) i j
only_in i j hi hj = gathered_in (λ x y. eqb x i && eqb y j) i j hi hj (and_from (eqb i i) (eqb j j) (eq-eqb i i refl) (eq-eqb j j refl))

pub only_holds : (i j : ℕ) {s : PairSet} → s ≡ only i j → (x y : ℕ) → x < 8 → y < 8 → holds s x y ≡ (eqb x i && eqb y j)
only_holds i j is x y hx hy = ap (λ s. holds s x y) is ∙ gathered-holds (λ x y. eqb x i && eqb y j) x y hx hy

pub only_is : (i j k : ℕ) → k ≡ 8 * i + j → j < 8 → set_of (1 * 2 ^ k % 2 ^ 64) ≡ only i j
only_is i j k is hj =
    ap (λ a. set_of (1 * 2 ^ a % 2 ^ 64)) is
    ∙ gathered_is (λ x y. eqb x i && eqb y j) (1 * 2 ^ (8 * i + j) % 2 ^ 64) (mod-lt (1 * 2 ^ (8 * i + j)) (pow_pos 64)) (λ x y hx hy. single_bit i j x y hj hx hy)

pub only_outside : (i j : ℕ) → (i < 8 → j < 8 → ⊥) → none ≡ only i j
only_outside i j out =
    gathered_same (λ x y. false) (λ x y. eqb x i && eqb y j)
    (λ x y hx hy. false-unless (eqb x i && eqb y j) (λ e. let both = and_parts (eqb x i) (eqb y j) e in out (subst (λ a. a < 8) (eqb-true x i both.0) hx) (subst (λ a. a < 8) (eqb-true y j both.1) hy)))

pub only_out : (i j x y : ℕ) → In (only i j) x y → (x ≡ i) × (y ≡ j)
only_out i j x y e =
    let both = and_parts (eqb x i) (eqb y j) (gathered-out (λ x y. eqb x i && eqb y j) x y e) in
    (eqb-true x i both.0, eqb-true y j both.1)

-- the bits of either of two numbers
pub joined_is : (s t : PairSet) → Fits s → Fits t → set_of (bit_or s.bits t.bits) ≡ joined s t
joined_is s t hs ht =
    gathered_is (λ i j. holds s i j || holds t i j) (bit_or s.bits t.bits) (or_lt 64 s.bits t.bits hs ht)
    (λ i j hi hj. bit-or s.bits t.bits (8 * i + j) ∙ ap₂ (λ a b. a || b) (sym (holds-bit s i j hi hj)) (sym (holds-bit t i j hi hj)))

module _ (s t : PairSet) (i j : ℕ) where
  pub joined-out : In (joined s t) i j → In s i j ⊎ In t i j
  joined-out e = or_cases (holds s i j) (holds t i j) (gathered-out (λ i j. holds s i j || holds t i j) i j e)

  pub joined_left : In s i j → In (joined s t) i j
  joined_left e = gathered_in (λ i j. holds s i j || holds t i j) i j (in_first s i j e) (in_second s i j e) (or_left (holds s i j) (holds t i j) e)

  pub joined_right : In t i j → In (joined s t) i j
  joined_right e = gathered_in (λ i j. holds s i j || holds t i j) i j (in_first t i j e) (in_second t i j e) (or_right (holds s i j) (holds t i j) e)

pub joined-holds : (s t : PairSet) (i j : ℕ) → holds (joined s t) i j ≡ (holds s i j || holds t i j)
joined-holds s t i j =
    bool_ext (holds (joined s t) i j) (holds s i j || holds t i j)
    (gathered-out (λ i j. holds s i j || holds t i j) i j)
    (λ e. ⊎_elim (joined_left s t i j) (joined_right s t i j) (or_cases (holds s i j) (holds t i j) e))

pub joined-gathered : (p q : ℕ → ℕ → Bool) → joined (gathered p) (gathered q) ≡ gathered (λ i j. p i j || q i j)
joined-gathered p q = gathered_same (λ i j. holds (gathered p) i j || holds (gathered q) i j) (λ i j. p i j || q i j) (λ i j hi hj. ap₂ (λ a b. a || b) (gathered-holds p i j hi hj) (gathered-holds q i j hi hj))

-- the laws of joining
pub joined-fits : (s t : PairSet) → Fits (joined s t)
joined-fits s t = gathered-fits (λ i j. holds s i j || holds t i j)

pub joined_assoc : (s t u : PairSet) → joined (joined s t) u ≡ joined s (joined t u)
joined_assoc s t u =
    same_sets (joined (joined s t) u) (joined s (joined t u)) (joined-fits (joined s t) u) (joined-fits s (joined t u))
    (λ i j e.
    ⊎_elim
    (λ h. ⊎_elim (joined_left s (joined t u) i j) (λ q. joined_right s (joined t u) i j (joined_left t u i j q)) (joined-out s t i j h))
    (λ h. joined_right s (joined t u) i j (joined_right t u i j h))
    (joined-out (joined s t) u i j e))
    (λ i j e.
    ⊎_elim
    (λ h. joined_left (joined s t) u i j (joined_left s t i j h))
    (λ h. ⊎_elim (λ q. joined_left (joined s t) u i j (joined_right s t i j q)) (joined_right (joined s t) u i j) (joined-out t u i j h))
    (joined-out s (joined t u) i j e))

pub none-joined : (s : PairSet) → Fits s → joined none s ≡ s
none-joined s fits =
    same_sets (joined none s) s (joined-fits none s) fits
    (λ i j e. ⊎_elim (λ h. absurd (not_in_none i j h)) (λ h. h) (joined-out none s i j e))
    (λ i j e. joined_right none s i j e)

pub joined-none : (s : PairSet) → Fits s → joined s none ≡ s
joined-none s fits =
    same_sets (joined s none) s (joined-fits s none) fits
    (λ i j e. ⊎_elim (λ h. h) (λ h. absurd (not_in_none i j h)) (joined-out s none i j e))
    (λ i j e. joined_left s none i j e)

-- sets of pairs of an index below n and one below k
module _ (n k : ℕ) where
  inside : PairSet → ℕ → ℕ → Bool
  inside s i j = (ltb i n && ltb j k) && holds s i j

  pub within-fits : (s : PairSet) → within n k s ≡ true → Fits s
  unfolding inside
  within-fits s w = omega (arith, eqb-true s.bits (gathered (inside s)).bits w, gathered-fits (inside s))

  pub within-out : (s : PairSet) → within n k s ≡ true → (i j : ℕ) → In s i j → (i < n) × (j < k)
  unfolding inside
  within-out s w i j e =
      let same : s ≡ gathered (inside s) = ap set_of (eqb-true s.bits (gathered (inside s)).bits w) in
      let both = and_parts (ltb i n) (ltb j k) (and_parts (ltb i n && ltb j k) (holds s i j) (gathered-out (inside s) i j (ap (λ t. holds t i j) (sym same) ∙ e))).0 in
      (ltb-true i n both.0, ltb-true j k both.1)

  pub within_in : (s : PairSet) → Fits s → ((i j : ℕ) → In s i j → (i < n) × (j < k)) → within n k s ≡ true
  unfolding inside
  within_in s fits below =
      let there : (i j : ℕ) → In s i j → In (gathered (inside s)) i j =
      λ i j e. let h = below i j e in gathered_in (inside s) i j (in_first s i j e) (in_second s i j e) (and_from (ltb i n && ltb j k) (holds s i j) (and_from (ltb i n) (ltb j k) (lt-ltb i n h.0) (lt-ltb j k h.1)) e) in
      let back : (i j : ℕ) → In (gathered (inside s)) i j → In s i j = λ i j e. (and_parts (ltb i n && ltb j k) (holds s i j) (gathered-out (inside s) i j e)).1 in
      eq-eqb s.bits (gathered (inside s)).bits (ap (λ (t : PairSet). t.bits) (same_sets s (gathered (inside s)) fits (gathered-fits (inside s)) there back))

  pub within_none : within n k none ≡ true
  within_none = within_in none (gathered-fits (λ i j. false)) (λ i j e. absurd (not_in_none i j e))

  pub within_only : (i j : ℕ) → i < n → j < k → within n k (only i j) ≡ true
  within_only i j hi hj =
      within_in (only i j) (gathered-fits (λ x y. eqb x i && eqb y j))
      (λ x y e. let is = only_out i j x y e in (subst (λ a. a < n) (sym is.0) hi, subst (λ a. a < k) (sym is.1) hj))

  pub within-joined : (s t : PairSet) → within n k s ≡ true → within n k t ≡ true → within n k (joined s t) ≡ true
  within-joined s t ws wt =
      within_in (joined s t) (joined-fits s t) (λ i j e. ⊎_elim (within-out s ws i j) (within-out t wt i j) (joined-out s t i j e))
