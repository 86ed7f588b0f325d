-- A recogniser that multiplies the other way round: its languages are those below, each word read backwards.
use Rattle.std.specs.Prelude.{◌≡◌, ℕ, reverse}
use Rattle.monoid.specs.Meaning.{Meaning}
use Rattle.monoid.specs.Words.{language, Recognises}

abbrev pub reversed_meaning : {E : Type 0} → Meaning E → Meaning E
reversed_meaning m = record {
  sound = m.sound;
  unit = m.unit;
  mul = λ x y. m.mul y x;
  image = m.image;
  width = m.width;
  lit = m.lit;
}

-- lamp by lamp, n recognises the words that m recognises when they are read backwards
pub record Backwards {E F : Type 0} (n : Meaning F) (m : Meaning E) : Type 0 where
  pub wide : n.width ≡ m.width
  pub lamps : (j : ℕ) → Recognises n j (λ w. language m j (reverse w))
