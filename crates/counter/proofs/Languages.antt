-- The image of a word under a counter is the sum of its weights modulo the modulus.
use Rattle.std.proofs.Common.{◌≡◌, ℕ, ◌+◌, ◌%◌, ◌<◌, List, [], ◌∷◌, get_or, Some, Option, sym, ap, ◌∙◌, subst, add-zero, add_assoc, mod-lt, mod-eq_of_lt, zero-add}
use Rattle.std.proofs.Math.Nat.{mod-add-mod}
use Rattle.std.proofs.lemmas.Bool.{eqb-true, eq-eqb, false≢true, cond-true, cond-false}
use Rattle.rows.specs.Places.{place}
use Rattle.monoid.specs.Meaning.{Meaning}
use Rattle.monoid.specs.Words.{Word, run, image_of, Recognises}
use Rattle.checks.specs.Verdicts.{accepted}
use Rattle.counter.specs.declared.data.CounterData.{CounterData}
use Rattle.counter.specs.Checks.{verdict_of}
use Rattle.counter.specs.Meanings.{counting, trivial, counter_from}
use Rattle.counter.specs.Languages.{weight_of, counted_to, Counts}
use Rattle.counter.proofs.Accepted.{good}

module _ (modulus : ℕ) (weights : List ℕ) (residue : Option ℕ) (some : 0 < modulus) where
  run_weighs : (x : ℕ) (w : Word) → x < modulus → run (counting modulus weights residue) x w ≡ (x + weight_of weights w) % modulus
  run_weighs x [] h = sym (ap (λ n. n % modulus) (add-zero x) ∙ mod-eq_of_lt h)
  run_weighs x (k ∷ w) h =
      run_weighs ((x + get_or weights (place k) 0) % modulus) w (mod-lt (x + get_or weights (place k) 0) some)
      ∙ mod-add-mod (x + get_or weights (place k) 0) modulus (weight_of weights w)
      ∙ ap (λ n. n % modulus) (add_assoc x (get_or weights (place k) 0) (weight_of weights w))

  pub image_weighs : (w : Word) → image_of (counting modulus weights residue) w ≡ weight_of weights w % modulus
  image_weighs w = run_weighs 0 w some ∙ ap (λ n. n % modulus) (zero-add (weight_of weights w))

pub counting_recognises : (d : CounterData) → 0 < d.modulus → Recognises (counting d.modulus d.weights (Some d.residue)) 0 (counted_to d)
counting_recognises d some = record {
  only = λ w h. sym (image_weighs d.modulus d.weights (Some d.residue) some w) ∙ eqb-true (image_of (counting d.modulus d.weights (Some d.residue)) w) d.residue h;
  every = λ w h. eq-eqb (image_of (counting d.modulus d.weights (Some d.residue)) w) d.residue (image_weighs d.modulus d.weights (Some d.residue) some w ∙ h);
}

pub trivial_recognises : Recognises trivial 0 (λ w. ⊥)
trivial_recognises = record { only = λ w h. false≢true h; every = λ w h. absurd h }

-- a counter that means what is made from the data recognises what they say
pub counter_counts : (d : CounterData) (m : Meaning ℕ) → m ≡ counter_from d → Counts d m
counter_counts d m is = record {
  taken = λ yes_said. subst (λ (v : Meaning ℕ). Recognises v 0 (counted_to d)) (sym (is ∙ cond-true (accepted (verdict_of d)) (counting d.modulus d.weights (Some d.residue)) trivial yes_said)) (counting_recognises d (good d yes_said).some);
  declined = λ no_said. subst (λ (v : Meaning ℕ). Recognises v 0 (λ w. ⊥)) (sym (is ∙ cond-false (accepted (verdict_of d)) (counting d.modulus d.weights (Some d.residue)) trivial no_said)) trivial_recognises;
}
