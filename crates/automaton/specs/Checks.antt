-- The questions that an automaton's data are asked.
use Rattle.std.specs.Prelude.{ℕ, Bool, false, cond, not, ◌&&◌, List, [], ◌∷◌, replicate, nat_le, slice_index, slice_index_or}
use Rattle.checks.specs.declared.verdict.Flaw.TheVariants.{SizeOutOfLimits, EntryTooLarge}
use Rattle.checks.specs.Verdicts.{Verdict, first_no, taken}
use Rattle.checks.specs.Below.{all_below}
use Rattle.automaton.specs.declared.data.AutomatonData.{AutomatonData}
use Rattle.automaton.specs.States.{is_state, is_lit}

-- there are from 1 to 16 states
abbrev pub states_fit : AutomatonData → Bool
states_fit d = nat_le 1 d.states && nat_le d.states 16

abbrev pub start_fits : AutomatonData → Bool
start_fits d = is_state d d.start

-- the next state by each kind is a state
abbrev pub row_fits : AutomatonData → List ℕ → Bool
row_fits d row = all_below 8 (λ p. is_state d (slice_index row p))

-- a state leads to states, and what is no state is not lit
abbrev pub fits_at : AutomatonData → ℕ → Bool
fits_at d s = cond (is_state d s) (row_fits d (slice_index_or d.next s [])) (not (is_lit d s))

abbrev pub entries_fit : AutomatonData → Bool
entries_fit d = all_below 16 (fits_at d)

abbrev pub verdict_of : AutomatonData → Verdict
verdict_of d = first_no ((states_fit d, SizeOutOfLimits) ∷ ((start_fits d && entries_fit d, EntryTooLarge) ∷ []))

-- the data of one state, at which the lamp is not lit
abbrev pub trivial_data : AutomatonData
trivial_data = record { states = 1; start = 0; next = replicate 16 (replicate 8 0); lit = replicate 16 false }

-- the data, or the trivial ones where the check declines them
abbrev pub or_trivial : AutomatonData → AutomatonData
or_trivial d = taken verdict_of trivial_data d
