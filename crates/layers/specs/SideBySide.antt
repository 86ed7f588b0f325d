-- Two recognisers side by side: the left one's lamps first, then those of the right, no more than sixteen in all.
use Rattle.std.specs.Prelude.{◌≡◌, ℕ, ◌+◌, ◌-◌, ◌<◌, ◌≤◌, min, cond, ◌&&◌, nat_lt}
use Rattle.monoid.specs.Meaning.{Meaning}
use Rattle.monoid.specs.Words.{language, Recognises}

abbrev pub side_by_side : {E F : Type 0} → Meaning E → Meaning F → Meaning (E × F)
side_by_side m n = record {
  sound = λ x. m.sound x.0 && n.sound x.1;
  unit = (m.unit, n.unit);
  mul = λ x y. (m.mul x.0 y.0, n.mul x.1 y.1);
  image = λ k. (m.image k, n.image k);
  width = min (m.width + n.width) 16;
  lit = λ x j. cond (nat_lt j m.width) (m.lit x.0 j) (nat_lt j 16 && n.lit x.1 (j - m.width));
}

-- the lamps of both recognise the languages of m and then those of n; lamps past the sixteenth are cut off
pub record Beside {E F G : Type 0} (both : Meaning G) (m : Meaning E) (n : Meaning F) : Type 0 where
  pub wide : both.width ≡ min (m.width + n.width) 16
  pub left : (j : ℕ) → j < m.width → Recognises both j (language m j)
  pub right : (j : ℕ) → m.width + j < 16 → Recognises both (m.width + j) (language n j)
  pub cut : (j : ℕ) → 16 ≤ j → Recognises both j (λ w. ⊥)
