-- A recogniser with each lamp turned over: its languages are the complements.
use Rattle.std.specs.Prelude.{◌≡◌, ℕ, ◌<◌, ◌≤◌, Bool, not, ◌&&◌, nat_lt}
use Rattle.monoid.specs.Meaning.{Meaning}
use Rattle.monoid.specs.Words.{language, Recognises}

-- lamp j of so many, turned over; none at or past the width
abbrev pub turned_over : ℕ → ℕ → Bool → Bool
turned_over width j lit = nat_lt j width && not lit

abbrev pub not_meaning : {E : Type 0} → Meaning E → Meaning E
not_meaning m = record {
  sound = m.sound;
  unit = m.unit;
  mul = m.mul;
  image = m.image;
  width = m.width;
  lit = λ x j. turned_over m.width j (m.lit x j);
}

-- lamp by lamp, n recognises the words that m does not
pub record Complements {E F : Type 0} (n : Meaning F) (m : Meaning E) : Type 0 where
  pub wide : n.width ≡ m.width
  pub lamps : (j : ℕ) → j < m.width → Recognises n j (λ w. language m j w → ⊥)
  pub beyond : (j : ℕ) → m.width ≤ j → Recognises n j (λ w. ⊥)
