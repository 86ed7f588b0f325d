-- Two recognisers side by side recognise the languages of both.
use Rattle.std.proofs.Common.{◌≡◌, ℕ, ◌+◌, ◌-◌, ◌<◌, ◌≤◌, false, ◌&&◌, ltb, [], ◌∷◌, sym, refl, ap, ◌∙◌, arith}
use Rattle.std.proofs.lemmas.Bool.{lt-ltb, le-ltb, and_left, both_ways, cond-true, cond-false}
use Rattle.monoid.specs.Meaning.{Meaning}
use Rattle.monoid.specs.Words.{Word, run, image_of}
use Rattle.monoid.specs.Laws.{Shaped}
use Rattle.layers.specs.SideBySide.{side_by_side, Beside}

-- the image of a word is the pair of its images
run_pair : {E F : Type 0} (m : Meaning E) (n : Meaning F) (x : E) (y : F) (w : Word) → run (side_by_side m n) (x, y) w ≡ (run m x w, run n y w)
run_pair m n x y [] = refl
run_pair m n x y (k ∷ w) = run_pair m n (m.mul x (m.image k)) (n.mul y (n.image k)) w

module _ {E F : Type 0} {m : Meaning E} (few : Shaped m) (n : Meaning F) where
  -- the lamps of a pair: of the left, of the right, and none that is cut off
  lit_left : (x : E × F) (j : ℕ) → j < m.width → (side_by_side m n).lit x j ≡ m.lit x.0 j
  lit_left x j h = cond-true (ltb j m.width) (m.lit x.0 j) (ltb j 16 && n.lit x.1 (j - m.width)) (lt-ltb j m.width h)

  lit_past : (x : E × F) (j : ℕ) → m.width ≤ j → (side_by_side m n).lit x j ≡ (ltb j 16 && n.lit x.1 (j - m.width))
  lit_past x j h = cond-false (ltb j m.width) (m.lit x.0 j) (ltb j 16 && n.lit x.1 (j - m.width)) (le-ltb j m.width h)

  lit_right : (x : E × F) (j : ℕ) → m.width + j < 16 → (side_by_side m n).lit x (m.width + j) ≡ n.lit x.1 j
  lit_right x j h =
      let past : m.width ≤ m.width + j = omega arith in
      let back : m.width + j - m.width ≡ j = omega arith in
      lit_past x (m.width + j) past ∙ ap (λ b. b && n.lit x.1 (m.width + j - m.width)) (lt-ltb (m.width + j) 16 h) ∙ ap (n.lit x.1) back

  lit_cut : (x : E × F) (j : ℕ) → 16 ≤ j → (side_by_side m n).lit x j ≡ false
  lit_cut x j h =
      let past : m.width ≤ j = omega (arith, few.few_lamps) in
      lit_past x j past ∙ and_left (ltb j 16) (n.lit x.1 (j - m.width)) (le-ltb j 16 h)

  pub beside : Beside (side_by_side m n) m n
  beside =
      let both = side_by_side m n in
      let pair : (w : Word) → image_of both w ≡ (image_of m w, image_of n w) = run_pair m n m.unit n.unit in
      let first : (j : ℕ) → j < m.width → (w : Word) → both.lit (image_of both w) j ≡ m.lit (image_of m w) j = λ j h w. ap (λ x. both.lit x j) (pair w) ∙ lit_left (image_of m w, image_of n w) j h in
      let second : (j : ℕ) → m.width + j < 16 → (w : Word) → both.lit (image_of both w) (m.width + j) ≡ n.lit (image_of n w) j = λ j h w. ap (λ x. both.lit x (m.width + j)) (pair w) ∙ lit_right (image_of m w, image_of n w) j h in
      record {
        wide = refl;
        left = λ j h. record { only = λ w p. sym (first j h w) ∙ p; every = λ w p. first j h w ∙ p };
        right = λ j h. record { only = λ w p. sym (second j h w) ∙ p; every = λ w p. second j h w ∙ p };
        cut = λ j h. record {
          only = λ w p. both_ways (both.lit (image_of both w) j) (lit_cut (image_of both w) j h) p;
          every = λ w none. absurd none;
        };
      }
