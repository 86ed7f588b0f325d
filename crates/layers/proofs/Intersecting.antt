-- A recogniser that is lit when all lamps below are recognises the intersection.
use Rattle.std.proofs.Common.{◌≡◌, ℕ, ◌≤◌, false, eqb, sym, refl, ◌∙◌, arith}
use Rattle.std.proofs.lemmas.Bool.{ne_eqb, and_left, both_ways}
use Rattle.checks.proofs.Below.{all_at, all_from}
use Rattle.monoid.specs.Meaning.{Meaning}
use Rattle.monoid.specs.Words.{Word, image_of}
use Rattle.layers.specs.All.{all_lit, all_meaning, Intersects}

no_lamp : {E : Type 0} (m : Meaning E) (x : E) (j : ℕ) → 1 ≤ j → (all_meaning m).lit x j ≡ false
no_lamp m x j h = and_left (eqb j 0) (all_lit m x) (ne_eqb j 0 (λ e. omega arith))

lamp_is : {E : Type 0} (m : Meaning E) (w : Word) → (all_meaning m).lit (image_of (all_meaning m) w) 0 ≡ all_lit m (image_of m w)
lamp_is m w = refl

pub intersects : {E : Type 0} (m : Meaning E) → Intersects (all_meaning m) m
intersects m = record {
  wide = refl;
  lamp = record {
    only = λ w p j h. all_at m.width (m.lit (image_of m w)) j (sym (lamp_is m w) ∙ p) h;
    every = λ w each. lamp_is m w ∙ all_from m.width (m.lit (image_of m w)) each;
  };
  beyond = λ j h. record {
    only = λ w p. both_ways ((all_meaning m).lit (image_of (all_meaning m) w) j) (no_lamp m (image_of (all_meaning m) w) j h) p;
    every = λ w none. absurd none;
  };
}
