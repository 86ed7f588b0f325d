-- What the laws give of the image of a word.
use Rattle.std.proofs.Common.{◌≡◌, ℕ, ◌+◌, ◌%◌, ◌^◌, ◌<◌, true, [], ◌∷◌, ◌++◌, length, get_or, take, sym, refl, ap, ◌∙◌, subst, add_assoc}
use native.Mathlib.Nat.{mod-add-mod}
use Rattle.std.proofs.lemmas.List.{take_more}
use Rattle.rows.specs.declared.kind.Kind.{Kind}
use Rattle.monoid.specs.Meaning.{Meaning}
use Rattle.monoid.specs.Words.{Word, run, image_of}
use Rattle.monoid.specs.Laws.{Lawful}

pub run-append : {E : Type 0} (m : Meaning E) (x : E) (us vs : Word) → run m x (us ++ vs) ≡ run m (run m x us) vs
run-append m x [] vs = refl
run-append m x (k ∷ us) vs = run-append m (m.mul x (m.image k)) us vs

-- one row more
pub image_more : {E : Type 0} (m : Meaning E) (w : Word) (i : ℕ) (d : Kind) → i < length w → m.mul (image_of m (take i w)) (m.image (get_or w i d)) ≡ image_of m (take (i + 1) w)
image_more m w i d within = sym (ap (image_of m) (take_more w i d within) ∙ run-append m m.unit (take i w) (get_or w i d ∷ []))

-- one product more
pub tally_more : (t i : ℕ) → ((t + i) % 2 ^ 64 + 1) % 2 ^ 64 ≡ (t + (i + 1)) % 2 ^ 64
tally_more t i = mod-add-mod (t + i) (2 ^ 64) 1 ∙ ap (λ n. n % 2 ^ 64) (add_assoc t i 1)

module _ {E : Type 0} {m : Meaning E} (laws : Lawful m) where
  pub run_sound : (x : E) (w : Word) → m.sound x ≡ true → m.sound (run m x w) ≡ true
  run_sound x [] h = h
  run_sound x (k ∷ w) h = run_sound (m.mul x (m.image k)) w (laws.sound_mul x (m.image k) h (laws.sound_image k))

  pub image_sound : (w : Word) → m.sound (image_of m w) ≡ true
  image_sound w = run_sound m.unit w laws.sound_unit

  pub run_from : (x : E) (w : Word) → m.sound x ≡ true → run m x w ≡ m.mul x (image_of m w)
  run_from x [] h = sym (laws.right x h)
  run_from x (k ∷ w) h =
      let ik = laws.sound_image k in
      let xk = laws.sound_mul x (m.image k) h ik in
      let tail = run_from (m.mul x (m.image k)) w xk in
      let uk = laws.sound_mul m.unit (m.image k) laws.sound_unit ik in
      let rest = run_from (m.mul m.unit (m.image k)) w uk in
      tail
      ∙ laws.assoc x (m.image k) (image_of m w) h ik (image_sound w)
      ∙ ap (λ y. m.mul x (m.mul y (image_of m w))) (sym (laws.left (m.image k) ik))
      ∙ ap (m.mul x) (sym rest)

  -- the image of nothing, of one row, of a first row and the others, and of two words one after the other
  pub image_none : image_of m [] ≡ m.unit
  image_none = refl

  pub image_one : (k : Kind) → image_of m (k ∷ []) ≡ m.image k
  image_one k = laws.left (m.image k) (laws.sound_image k)

  pub image_cons : (k : Kind) (w : Word) → image_of m (k ∷ w) ≡ m.mul (m.image k) (image_of m w)
  image_cons k w = ap (λ x. run m x w) (laws.left (m.image k) (laws.sound_image k)) ∙ run_from (m.image k) w (laws.sound_image k)

  pub image_append : (us vs : Word) → image_of m (us ++ vs) ≡ m.mul (image_of m us) (image_of m vs)
  image_append us vs = run-append m m.unit us vs ∙ run_from (image_of m us) vs (image_sound us)

-- a product asked of a recogniser that means m by now
pub product_told : {E : Type 0} (m n : Meaning E) (x y r : E) → n ≡ m → (n.sound x ≡ true → n.sound y ≡ true → r ≡ n.mul x y) → m.sound x ≡ true → m.sound y ≡ true → r ≡ m.mul x y
product_told {E} m n x y r e told = subst (λ (v : Meaning E). v.sound x ≡ true → v.sound y ≡ true → r ≡ v.mul x y) e told

-- one row more, asked of a recogniser that means m by now
pub image_step : {E : Type 0} {m n : Meaning E} → Lawful m → n ≡ m → (w : Word) (i : ℕ) (d : Kind) (x r : E) → i < length w → x ≡ image_of m (take i w) → (n.sound x ≡ true → r ≡ n.mul x (n.image (get_or w i d))) → r ≡ image_of m (take (i + 1) w)
image_step {E} {m} {n} laws e w i d x r within x_is told =
    let k = get_or w i d in
    let x_sound : m.sound x ≡ true = ap m.sound x_is ∙ image_sound laws (take i w) in
    subst (λ (v : Meaning E). v.sound x ≡ true → r ≡ v.mul x (v.image k)) e told x_sound ∙ ap (λ z. m.mul z (m.image k)) x_is ∙ image_more m w i d within
