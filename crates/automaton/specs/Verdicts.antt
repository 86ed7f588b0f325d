-- What each verdict says of an automaton's data, in words.
use Rattle.std.specs.Prelude.{◌≡◌, ◌↔◌, ℕ, ◌<◌, ◌≤◌, true, ◌⊎◌}
use Rattle.rows.specs.declared.kind.Kind.{Kind}
use Rattle.checks.specs.Verdicts.{Verdict, number_of}
use Rattle.automaton.specs.declared.data.AutomatonData.{AutomatonData}
use Rattle.automaton.specs.States.{is_lit, next_state}

pub record StatesFit (d : AutomatonData) : Type 0 where
  pub some : 1 ≤ d.states
  pub few : d.states ≤ 16

abbrev pub StatesUnfit : AutomatonData → Type 0
StatesUnfit d = (d.states < 1) ⊎ (16 < d.states)

-- the start is a state, a state leads to states, and only states are lit
pub record AllStates (d : AutomatonData) : Type 0 where
  pub start : d.start < d.states
  pub next : (s : ℕ) (k : Kind) → s < d.states → next_state d k s < d.states
  pub lit : (s : ℕ) → s < 16 → is_lit d s ≡ true → s < d.states

-- the start is no state, or some state leads to what is none, or what is none is lit
pub data TooLarge (d : AutomatonData) : Type 0 where
  start : d.states ≤ d.start → TooLarge d
  next : (s : ℕ) (k : Kind) → s < d.states → d.states ≤ next_state d k s → TooLarge d
  lit : (s : ℕ) → s < 16 → is_lit d s ≡ true → d.states ≤ s → TooLarge d

pub record Says (d : AutomatonData) (v : Verdict) : Type 0 where
  pub accepted : (number_of v ≡ 0) ↔ (StatesFit d × AllStates d)
  pub size_out_of_limits : (number_of v ≡ 21) ↔ StatesUnfit d
  pub entry_too_large : (number_of v ≡ 22) ↔ (StatesFit d × TooLarge d)
