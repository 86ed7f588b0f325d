-- The language of a counter: the words whose weights sum to the residue, modulo the modulus.
use Rattle.std.specs.Prelude.{◌≡◌, ℕ, ◌+◌, ◌%◌, true, false, List, [], ◌∷◌, slice_index}
use Rattle.rows.specs.Places.{place}
use Rattle.monoid.specs.Meaning.{Meaning}
use Rattle.monoid.specs.Words.{Word, Recognises}
use Rattle.checks.specs.Verdicts.{accepted}
use Rattle.counter.specs.declared.data.CounterData.{CounterData}
use Rattle.counter.specs.Checks.{verdict_of}

abbrev pub weight_of : List ℕ → Word → ℕ
weight_of weights [] = 0
weight_of weights (k ∷ w) = slice_index weights (place k) + weight_of weights w

abbrev pub counted_to : CounterData → Word → Type 0
counted_to d w = weight_of d.weights w % d.modulus ≡ d.residue

-- what the lamp of a counter made from data recognises
pub record Counts (d : CounterData) (m : Meaning ℕ) : Type 0 where
  pub taken : accepted (verdict_of d) ≡ true → Recognises m 0 (counted_to d)
  pub declined : accepted (verdict_of d) ≡ false → Recognises m 0 (λ w. ⊥)
