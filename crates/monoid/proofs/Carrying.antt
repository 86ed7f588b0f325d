-- The monoid on the indexes is that of the elements: index and element are homomorphisms, and it keeps the laws of a recogniser in order and recognises the same languages.
use Rattle.std.proofs.Common.{◌≡◌, ℕ, ◌<◌, true, ltb, [], ◌∷◌, sym, refl, ap, ◌∙◌, ap₂}
use Rattle.std.proofs.lemmas.Bool.{lt-ltb, ltb-true}
use Rattle.monoid.specs.Meaning.{Meaning}
use Rattle.monoid.specs.Words.{Word, run, image_of, language, Recognises}
use Rattle.monoid.specs.Laws.{Shaped, Lawful}
use Rattle.monoid.specs.Small.{Small, Undone, index_of_product, on_indexes, Homomorphism, Carried}
use Rattle.monoid.proofs.Words.{image_sound}

module _ {E : Type 0} {m : Meaning E} (laws : Lawful m) {n : Small E} (undone : Undone m n) where
  -- an index below the order gives a sound element, and a sound element an index below the order
  element_at : (i : ℕ) → ltb i n.order ≡ true → m.sound (n.element i) ≡ true
  element_at i h = undone.element_sound i (ltb-true i n.order h)

  index_at : (x : E) → m.sound x ≡ true → ltb (n.index x) n.order ≡ true
  index_at x h = lt-ltb (n.index x) n.order (undone.index_below x h)

  -- a product on the indexes is the index of the product
  pub product-across : (x y : E) → m.sound x ≡ true → m.sound y ≡ true → (on_indexes m n).mul (n.index x) (n.index y) ≡ n.index (m.mul x y)
  product-across x y p q = ap n.index (ap₂ m.mul (undone.there x p) (undone.there y q))

  pub indexes_lawful : Lawful (on_indexes m n)
  indexes_lawful = record {
    sound_unit = index_at m.unit laws.sound_unit;
    sound_image = λ k. index_at (m.image k) (laws.sound_image k);
    sound_mul = λ i j p q. index_at (m.mul (n.element i) (n.element j)) (laws.sound_mul (n.element i) (n.element j) (element_at i p) (element_at j q));
    left = λ i p.
        ap (λ x. n.index (m.mul x (n.element i))) (undone.there m.unit laws.sound_unit)
        ∙ ap n.index (laws.left (n.element i) (element_at i p))
        ∙ undone.back i (ltb-true i n.order p);
    right = λ i p.
        ap (λ x. n.index (m.mul (n.element i) x)) (undone.there m.unit laws.sound_unit)
        ∙ ap n.index (laws.right (n.element i) (element_at i p))
        ∙ undone.back i (ltb-true i n.order p);
    assoc = λ i j k p q r.
        let x = n.element i in
        let y = n.element j in
        let z = n.element k in
        let sx = element_at i p in
        let sy = element_at j q in
        let sz = element_at k r in
        ap (λ u. n.index (m.mul u z)) (undone.there (m.mul x y) (laws.sound_mul x y sx sy))
        ∙ ap n.index (laws.assoc x y z sx sy sz)
        ∙ sym (ap (λ u. n.index (m.mul x u)) (undone.there (m.mul y z) (laws.sound_mul y z sy sz)));
  }

  pub to_indexes : Homomorphism m (on_indexes m n) n.index
  to_indexes = record {
    sound = index_at;
    unit = refl;
    mul = λ x y p q. sym (product-across x y p q);
    image = λ k. refl;
    width = refl;
    lit = λ x p j. ap (λ y. m.lit y j) (sym (undone.there x p));
  }

  pub to_elements : Homomorphism (on_indexes m n) m n.element
  to_elements = record {
    sound = element_at;
    unit = undone.there m.unit laws.sound_unit;
    mul = λ i j p q. undone.there (m.mul (n.element i) (n.element j)) (laws.sound_mul (n.element i) (n.element j) (element_at i p) (element_at j q));
    image = λ k. undone.there (m.image k) (laws.sound_image k);
    width = refl;
    lit = λ i p j. refl;
  }

  run-across : (x : E) (w : Word) → m.sound x ≡ true → run (on_indexes m n) (n.index x) w ≡ n.index (run m x w)
  run-across x [] h = refl
  run-across x (k ∷ w) h =
      ap (λ i. run (on_indexes m n) i w) (product-across x (m.image k) h (laws.sound_image k))
      ∙ run-across (m.mul x (m.image k)) w (laws.sound_mul x (m.image k) h (laws.sound_image k))

  -- the image of a word on the indexes is the index of its image
  pub image_across : (w : Word) → image_of (on_indexes m n) w ≡ n.index (image_of m w)
  image_across w = run-across m.unit w laws.sound_unit

  lamp_across : (j : ℕ) (w : Word) → (on_indexes m n).lit (image_of (on_indexes m n) w) j ≡ m.lit (image_of m w) j
  lamp_across j w = ap (λ i. m.lit (n.element i) j) (image_across w) ∙ ap (λ x. m.lit x j) (undone.there (image_of m w) (image_sound laws w))

  pub same_languages : (j : ℕ) → Recognises (on_indexes m n) j (language m j)
  same_languages j = record { only = λ w h. sym (lamp_across j w) ∙ h; every = λ w h. lamp_across j w ∙ h }

pub indexes_shaped : {E : Type 0} {m : Meaning E} (n : Small E) → Shaped m → Shaped (on_indexes m n)
indexes_shaped n shape = record { some_width = shape.some_width; few_lamps = shape.few_lamps; no_more = λ i j h. shape.no_more (n.element i) j h }

-- the product of the elements of two indexes, asked of a recogniser that means m
pub product_of_elements : {E : Type 0} {m : Meaning E} {n : Small E} → Undone m n → (i j : ℕ) (x y z : E) → i < n.order → j < n.order → x ≡ n.element i → y ≡ n.element j → (m.sound x ≡ true → m.sound y ≡ true → z ≡ m.mul x y) → z ≡ m.mul (n.element i) (n.element j)
product_of_elements {E} {m} {n} undone i j x y z hi hj x_is y_is product =
    let x_sound : m.sound x ≡ true = ap m.sound x_is ∙ undone.element_sound i hi in
    let y_sound : m.sound y ≡ true = ap m.sound y_is ∙ undone.element_sound j hj in
    product x_sound y_sound ∙ ap₂ m.mul x_is y_is

-- the index of a product, asked of a recogniser that keeps its meaning and its indexes over the question
pub product_by_index : {E : Type 0} {m after : Meaning E} {n then : Small E} → Lawful m → Undone m n → after ≡ m → then ≡ n → (i j : ℕ) (z : E) (r : ℕ) → i < n.order → j < n.order → z ≡ m.mul (n.element i) (n.element j) → (after.sound z ≡ true → r ≡ then.index z) → r ≡ index_of_product m n i j
product_by_index {E} {m} {after} {n} {then} laws undone same steady i j z r hi hj z_is index =
    let z_sound : m.sound z ≡ true = ap m.sound z_is ∙ laws.sound_mul (n.element i) (n.element j) (undone.element_sound i hi) (undone.element_sound j hj) in
    index (ap (λ (v : Meaning E). v.sound z) same ∙ z_sound) ∙ ap (λ (v : Small E). v.index z) steady ∙ ap n.index z_is

-- such an index is below the order
pub product_index_below : {E : Type 0} {m : Meaning E} {n : Small E} → Lawful m → Undone m n → (i j : ℕ) → i < n.order → j < n.order → index_of_product m n i j < n.order
product_index_below {E} {m} {n} laws undone i j hi hj = undone.index_below (m.mul (n.element i) (n.element j)) (laws.sound_mul (n.element i) (n.element j) (undone.element_sound i hi) (undone.element_sound j hj))

pub carried : {E : Type 0} {m : Meaning E} {n : Small E} → Shaped m → Lawful m → Undone m n → Carried m n
carried {E} {m} {n} shape laws undone = record { undone = undone; to_indexes = to_indexes laws undone; to_elements = to_elements laws undone; shaped = indexes_shaped n shape; lawful = indexes_lawful laws undone; languages = same_languages laws undone }
