-- The language of an automaton: the words whose run from the start ends in a lit state.
use Rattle.std.specs.Prelude.{◌≡◌, ℕ, true, false, [], ◌∷◌}
use Rattle.monoid.specs.Meaning.{Meaning}
use Rattle.monoid.specs.Words.{Word, Recognises}
use Rattle.checks.specs.Verdicts.{accepted}
use Rattle.automaton.specs.declared.data.AutomatonData.{AutomatonData}
use Rattle.automaton.specs.declared.state_map.StateMap.{StateMap}
use Rattle.automaton.specs.States.{is_lit, next_state}
use Rattle.automaton.specs.Checks.{verdict_of}

-- the state that a run over a word ends in, from a state
abbrev pub run_from : AutomatonData → ℕ → Word → ℕ
run_from d s [] = s
run_from d s (k ∷ w) = run_from d (next_state d k s) w

abbrev pub ends_lit : AutomatonData → Word → Type 0
ends_lit d w = is_lit d (run_from d d.start w) ≡ true

-- what the lamp of an automaton made from data recognises
pub record Runs (d : AutomatonData) (m : Meaning StateMap) : Type 0 where
  pub taken : accepted (verdict_of d) ≡ true → Recognises m 0 (ends_lit d)
  pub declined : accepted (verdict_of d) ≡ false → Recognises m 0 (λ w. ⊥)
