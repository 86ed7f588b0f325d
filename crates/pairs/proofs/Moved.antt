-- The laws of moving the first or second members of a set of pairs, told by one text for both.
use Rattle.std.proofs.Common.{◌≡◌, ℕ, ◌+◌, ◌^◌, ◌<◌, ◌≤◌, Bool, true, false, ◌&&◌, ◌||◌, eqb, ◌⊎◌, sym, refl, ap, ◌∙◌, subst, ⊎_elim, arith}
use Rattle.std.proofs.lemmas.Bool.{eqb-true, eq-eqb, ne_eqb, cases_lt, and_parts, and_from, and_left, and_right}
use Rattle.pairs.specs.declared.member.Member.{Member}
use Rattle.pairs.specs.declared.member.Member.TheVariants.{First, Second}
use Rattle.pairs.specs.declared.pair_set.PairSet.{PairSet}
use Rattle.pairs.specs.Below.{some_below}
use Rattle.pairs.specs.Lines.{bit_by, LineAs}
use Rattle.pairs.specs.Pairs.{none, joined, within}
use Rattle.pairs.specs.Moved.{holds_by, gathered_by, line_moved, moved}
use Rattle.pairs.proofs.Below.{some-none, some_more, some_in, some_out}
use Rattle.pairs.proofs.Pairs.{Fits, set_of, holds-bit, in_first, in_second, outside, same_sets, gathered_is, gathered-fits, gathered-holds, gathered_in, gathered-out, gathered_same, joined-gathered, not_in_none, joined-out, joined_left, joined_right, joined-fits, within_in, within-out}

-- what is in a set, by the member that is moved and the other one
abbrev pub In_by : Member → PairSet → ℕ → ℕ → Type 0
In_by member s x y = holds_by member s x y ≡ true

by_member : (member : Member) (s : PairSet) (x y : ℕ) → In_by member s x y → x < 8
by_member First s x y e = in_first s x y e
by_member Second s x y e = in_second s y x e

by_other : (member : Member) (s : PairSet) (x y : ℕ) → In_by member s x y → y < 8
by_other First s x y e = in_second s x y e
by_other Second s x y e = in_first s y x e

same_by : (member : Member) (s t : PairSet) → Fits s → Fits t → ((x y : ℕ) → In_by member s x y → In_by member t x y) → ((x y : ℕ) → In_by member t x y → In_by member s x y) → s ≡ t
same_by First s t hs ht there back = same_sets s t hs ht there back
same_by Second s t hs ht there back = same_sets s t hs ht (λ i j. there j i) (λ i j. back j i)

gathered_by-fits : (member : Member) (p : ℕ → ℕ → Bool) → Fits (gathered_by member p)
gathered_by-fits First p = gathered-fits p
gathered_by-fits Second p = gathered-fits (λ i j. p j i)

gathered_by_in : (member : Member) (p : ℕ → ℕ → Bool) (x y : ℕ) → x < 8 → y < 8 → p x y ≡ true → In_by member (gathered_by member p) x y
gathered_by_in First p x y hx hy e = gathered_in p x y hx hy e
gathered_by_in Second p x y hx hy e = gathered_in (λ i j. p j i) y x hy hx e

gathered_by-out : (member : Member) (p : ℕ → ℕ → Bool) (x y : ℕ) → In_by member (gathered_by member p) x y → p x y ≡ true
gathered_by-out First p x y e = gathered-out p x y e
gathered_by-out Second p x y e = gathered-out (λ i j. p j i) y x e

gathered_by-holds : (member : Member) (p : ℕ → ℕ → Bool) (x y : ℕ) → x < 8 → y < 8 → holds_by member (gathered_by member p) x y ≡ p x y
gathered_by-holds First p x y hx hy = gathered-holds p x y hx hy
gathered_by-holds Second p x y hx hy = gathered-holds (λ i j. p j i) y x hy hx

gathered_by_same : (member : Member) (p q : ℕ → ℕ → Bool) → ((x y : ℕ) → x < 8 → y < 8 → p x y ≡ q x y) → gathered_by member p ≡ gathered_by member q
gathered_by_same First p q same = gathered_same p q same
gathered_by_same Second p q same = gathered_same (λ i j. p j i) (λ i j. q j i) (λ i j hi hj. same j i hj hi)

joined-gathered_by : (member : Member) (p q : ℕ → ℕ → Bool) → joined (gathered_by member p) (gathered_by member q) ≡ gathered_by member (λ x y. p x y || q x y)
joined-gathered_by First p q = joined-gathered p q
joined-gathered_by Second p q = joined-gathered (λ i j. p j i) (λ i j. q j i)

none_by : (member : Member) → none ≡ gathered_by member (λ x y. false)
none_by First = refl
none_by Second = refl

joined_by_out : (member : Member) (s t : PairSet) (x y : ℕ) → In_by member (joined s t) x y → In_by member s x y ⊎ In_by member t x y
joined_by_out First s t x y e = joined-out s t x y e
joined_by_out Second s t x y e = joined-out s t y x e

joined_by_left : (member : Member) (s t : PairSet) (x y : ℕ) → In_by member s x y → In_by member (joined s t) x y
joined_by_left First s t x y e = joined_left s t x y e
joined_by_left Second s t x y e = joined_left s t y x e

joined_by_right : (member : Member) (s t : PairSet) (x y : ℕ) → In_by member t x y → In_by member (joined s t) x y
joined_by_right First s t x y e = joined_right s t x y e
joined_by_right Second s t x y e = joined_right s t y x e

nothing_by : (member : Member) (x y : ℕ) → In_by member none x y → ⊥
nothing_by First x y e = not_in_none x y e
nothing_by Second x y e = not_in_none y x e

-- what is in a line
pub line_holds : (member : Member) (s : PairSet) (from to : ℕ) (line : PairSet) → line ≡ line_moved member from to s → (x y : ℕ) → x < 8 → y < 8 → holds_by member line x y ≡ (eqb x to && holds_by member s from y)
line_holds member s from to line is x y hx hy = ap (λ l. holds_by member l x y) is ∙ gathered_by-holds member (λ x y. eqb x to && holds_by member s from y) x y hx hy

-- a line as bits, and a line that is outside
holds_by-bit : (member : Member) (s : PairSet) (x y : ℕ) → x < 8 → y < 8 → holds_by member s x y ≡ bit_by member s.bits x y
holds_by-bit First s x y hx hy = holds-bit s x y hx hy
holds_by-bit Second s x y hx hy = holds-bit s y x hy hx

gathered_by_is : (member : Member) (p : ℕ → ℕ → Bool) (n : ℕ) → n < 2 ^ 64 → ((x y : ℕ) → x < 8 → y < 8 → bit_by member n x y ≡ p x y) → set_of n ≡ gathered_by member p
gathered_by_is First p n fits told = gathered_is p n fits told
gathered_by_is Second p n fits told = gathered_is (λ i j. p j i) n fits (λ i j hi hj. told j i hj hi)

pub line_is : (member : Member) (s : PairSet) (from to n : ℕ) → from < 8 → n < 2 ^ 64 → LineAs member s.bits from to n → set_of n ≡ line_moved member from to s
line_is member s from to n below fits told =
    gathered_by_is member (λ x y. eqb x to && holds_by member s from y) n fits
    (λ x y hx hy. told x y hx hy ∙ ap (λ b. eqb x to && b) (sym (holds_by-bit member s from y below hy)))

outside_by : (member : Member) (s : PairSet) (x y : ℕ) → 8 ≤ x → holds_by member s x y ≡ false
outside_by First s x y h = outside s x y (λ hx hy. omega arith)
outside_by Second s x y h = outside s y x (λ hy hx. omega arith)

pub line_outside : (member : Member) (s : PairSet) (from to : ℕ) → (from < 8 → to < 8 → ⊥) → none ≡ line_moved member from to s
line_outside member s from to out =
    none_by member
    ∙ gathered_by_same member (λ x y. false) (λ x y. eqb x to && holds_by member s from y)
    (λ x y hx hy.
    ⊎_elim
    (λ h. sym (and_left (eqb x to) (holds_by member s from y) (ne_eqb x to (λ e. out h (subst (λ a. a < 8) e hx)))))
    (λ h. sym (and_right (eqb x to) (holds_by member s from y) (outside_by member s from y h)))
    (cases_lt from 8))

module _ (member : Member) (n : ℕ) (f : ℕ → ℕ) where
  -- no lines moved, and one line more
  pub moved_start : (s : PairSet) → none ≡ moved member 0 f s
  moved_start s =
      none_by member
      ∙ gathered_by_same member (λ z y. false) (λ z y. some_below 0 (λ x. eqb z (f x) && holds_by member s x y)) (λ z y hz hy. some-none (λ x. eqb z (f x) && holds_by member s x y))

  pub moved_more : (s : PairSet) → joined (moved member n f s) (line_moved member n (f n) s) ≡ moved member (n + 1) f s
  moved_more s =
      let before : ℕ → ℕ → Bool = λ z y. some_below n (λ x. eqb z (f x) && holds_by member s x y) in
      let here : ℕ → ℕ → Bool = λ z y. eqb z (f n) && holds_by member s n y in
      joined-gathered_by member before here
      ∙ gathered_by_same member (λ z y. before z y || here z y) (λ z y. some_below (n + 1) (λ x. eqb z (f x) && holds_by member s x y)) (λ z y hz hy. sym (some_more n (λ x. eqb z (f x) && holds_by member s x y)))

  pub moved-fits : (s : PairSet) → Fits (moved member n f s)
  moved-fits s = gathered_by-fits member (λ z y. some_below n (λ x. eqb z (f x) && holds_by member s x y))

  -- what is in a set whose members are moved
  pub moved_out : (s : PairSet) (z y : ℕ) → In_by member (moved member n f s) z y → (x : ℕ) × (x < n) × (z ≡ f x) × In_by member s x y
  moved_out s z y e =
      let found = some_out n (λ x. eqb z (f x) && holds_by member s x y) (gathered_by-out member (λ z y. some_below n (λ x. eqb z (f x) && holds_by member s x y)) z y e) in
      let both = and_parts (eqb z (f found.0)) (holds_by member s found.0 y) found.2 in
      (found.0, found.1, eqb-true z (f found.0) both.0, both.1)

  pub moved_in : (s : PairSet) (z y : ℕ) → z < 8 → (x : ℕ) → x < n → z ≡ f x → In_by member s x y → In_by member (moved member n f s) z y
  moved_in s z y hz x hx is e =
      gathered_by_in member (λ z y. some_below n (λ x. eqb z (f x) && holds_by member s x y)) z y hz (by_other member s x y e)
      (some_in n (λ x. eqb z (f x) && holds_by member s x y) x hx (and_from (eqb z (f x)) (holds_by member s x y) (eq-eqb z (f x) is) e))

  pub moved_none : moved member n f none ≡ none
  moved_none =
      same_by member (moved member n f none) none (moved-fits none) (gathered-fits (λ i j. false))
      (λ z y e. let out = moved_out none z y e in absurd (nothing_by member out.0 y out.3))
      (λ z y e. absurd (nothing_by member z y e))

  pub moved-joined : (s t : PairSet) → moved member n f (joined s t) ≡ joined (moved member n f s) (moved member n f t)
  moved-joined s t =
      let ms = moved member n f s in
      let mt = moved member n f t in
      let st = joined s t in
      same_by member (moved member n f st) (joined ms mt) (moved-fits st) (joined-fits ms mt)
      (λ z y e.
      let out = moved_out st z y e in
      let hz = by_member member (moved member n f st) z y e in
      ⊎_elim
      (λ h. joined_by_left member ms mt z y (moved_in s z y hz out.0 out.1 out.2 h))
      (λ h. joined_by_right member ms mt z y (moved_in t z y hz out.0 out.1 out.2 h))
      (joined_by_out member s t out.0 y out.3))
      (λ z y e.
      let hz = by_member member (joined ms mt) z y e in
      ⊎_elim
      (λ h. let out = moved_out s z y h in moved_in st z y hz out.0 out.1 out.2 (joined_by_left member s t out.0 y out.3))
      (λ h. let out = moved_out t z y h in moved_in st z y hz out.0 out.1 out.2 (joined_by_right member s t out.0 y out.3))
      (joined_by_out member ms mt z y e))

  -- moved to where they are
  pub moved_still : ((a : ℕ) → a < n → f a ≡ a) → (s : PairSet) → Fits s → ((x y : ℕ) → In_by member s x y → x < n) → moved member n f s ≡ s
  moved_still still s fits below =
      same_by member (moved member n f s) s (moved-fits s) fits
      (λ z y e. let out = moved_out s z y e in ap (λ a. holds_by member s a y) (out.2 ∙ still out.0 out.1) ∙ out.3)
      (λ z y e. moved_in s z y (by_member member s z y e) z (below z y e) (sym (still z (below z y e))) e)

-- moved twice
pub moved_twice : (member : Member) (n : ℕ) (f g h : ℕ → ℕ) → n ≤ 8 → ((a : ℕ) → a < n → g a < n) → ((a : ℕ) → a < n → h a ≡ f (g a)) → (s : PairSet) → moved member n h s ≡ moved member n f (moved member n g s)
moved_twice member n f g h few inner both s =
    let ms = moved member n g s in
    same_by member (moved member n h s) (moved member n f ms) (moved-fits member n h s) (moved-fits member n f ms)
    (λ z y e.
    let out = moved_out member n h s z y e in
    let x = out.0 in
    let hx : g x < 8 = omega (arith, inner x out.1) in
    moved_in member n f ms z y (by_member member (moved member n h s) z y e) (g x) (inner x out.1) (out.2 ∙ both x out.1) (moved_in member n g s (g x) y hx x out.1 refl out.3))
    (λ z y e.
    let out = moved_out member n f ms z y e in
    let in' = moved_out member n g s out.0 y out.3 in
    moved_in member n h s z y (by_member member (moved member n f ms) z y e) in'.0 in'.1 (out.2 ∙ ap f in'.2 ∙ sym (both in'.0 in'.1)) in'.3)

-- moved on both sides, in either order
pub moved-across : (n k : ℕ) (f g : ℕ → ℕ) (s : PairSet) → moved First n f (moved Second k g s) ≡ moved Second k g (moved First n f s)
moved-across n k f g s =
    same_sets (moved First n f (moved Second k g s)) (moved Second k g (moved First n f s)) (moved-fits First n f (moved Second k g s)) (moved-fits Second k g (moved First n f s))
    (λ i j e.
    let out = moved_out First n f (moved Second k g s) i j e in
    let in' = moved_out Second k g s j out.0 out.3 in
    moved_in Second k g (moved First n f s) j i (in_second (moved First n f (moved Second k g s)) i j e) in'.0 in'.1 in'.2
    (moved_in First n f s i in'.0 (in_first (moved First n f (moved Second k g s)) i j e) out.0 out.1 out.2 in'.3))
    (λ i j e.
    let out = moved_out Second k g (moved First n f s) j i e in
    let in' = moved_out First n f s i out.0 out.3 in
    moved_in First n f (moved Second k g s) i j (in_first (moved Second k g (moved First n f s)) i j e) in'.0 in'.1 in'.2
    (moved_in Second k g s j in'.0 (in_second (moved Second k g (moved First n f s)) i j e) out.0 out.1 out.2 in'.3))

-- moved within the bounds
pub within_first : (n k : ℕ) (f : ℕ → ℕ) → ((a : ℕ) → a < n → f a < n) → (s : PairSet) → within n k s ≡ true → within n k (moved First n f s) ≡ true
within_first n k f below s w =
    within_in n k (moved First n f s) (moved-fits First n f s)
    (λ i j e. let out = moved_out First n f s i j e in (subst (λ a. a < n) (sym out.2) (below out.0 out.1), (within-out n k s w out.0 j out.3).1))

pub within_second : (n k : ℕ) (g : ℕ → ℕ) → ((a : ℕ) → a < k → g a < k) → (s : PairSet) → within n k s ≡ true → within n k (moved Second k g s) ≡ true
within_second n k g below s w =
    within_in n k (moved Second k g s) (moved-fits Second k g s)
    (λ i j e. let out = moved_out Second k g s j i e in ((within-out n k s w i out.0 out.3).0, subst (λ a. a < k) (sym out.2) (below out.0 out.1)))
