-- The states of an automaton: which numbers are states, which of them are lit, and which state comes next.
use Rattle.std.specs.Prelude.{ℕ, Bool, false, [], nat_lt, slice_index, slice_index_or}
use Rattle.rows.specs.declared.kind.Kind.{Kind}
use Rattle.rows.specs.Places.{place}
use Rattle.automaton.specs.declared.data.AutomatonData.{AutomatonData}

abbrev pub is_state : AutomatonData → ℕ → Bool
is_state d s = nat_lt s d.states

abbrev pub is_lit : AutomatonData → ℕ → Bool
is_lit d s = slice_index_or d.lit s false

-- the state to which a row leads from a state
abbrev pub next_state : AutomatonData → Kind → ℕ → ℕ
next_state d k s = slice_index (slice_index_or d.next s []) (place k)
