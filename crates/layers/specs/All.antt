-- A recogniser with one lamp, lit when all lamps below are: its language is the intersection of theirs.
use Rattle.std.specs.Prelude.{◌≡◌, ℕ, ◌<◌, ◌≤◌, Bool, ◌&&◌, ◌==◌}
use Rattle.checks.specs.Below.{all_below}
use Rattle.monoid.specs.Meaning.{Meaning}
use Rattle.monoid.specs.Words.{language, Recognises}

-- whether an element lights every lamp
abbrev pub all_lit : {E : Type 0} → Meaning E → E → Bool
all_lit m x = all_below m.width (m.lit x)

abbrev pub all_meaning : {E : Type 0} → Meaning E → Meaning E
all_meaning m = record {
  sound = m.sound;
  unit = m.unit;
  mul = m.mul;
  image = m.image;
  width = 1;
  lit = λ x j. (j == 0) && all_lit m x;
}

-- the one lamp of n recognises the words that every lamp of m does
pub record Intersects {E F : Type 0} (n : Meaning F) (m : Meaning E) : Type 0 where
  pub wide : n.width ≡ 1
  pub lamp : Recognises n 0 (λ w. (j : ℕ) → j < m.width → language m j w)
  pub beyond : (j : ℕ) → 1 ≤ j → Recognises n j (λ w. ⊥)
