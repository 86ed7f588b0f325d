-- Maps of states: the identity, where a row leads, and one map after another.
use Rattle.std.specs.Prelude.{ℕ, Bool, cond, ◌&&◌, map, length, ◌==◌, slice_index}
use Rattle.std.specs.List.{range_with_len}
use Rattle.rows.specs.declared.kind.Kind.{Kind}
use Rattle.checks.specs.Below.{all_below}
use Rattle.automaton.specs.declared.data.AutomatonData.{AutomatonData}
use Rattle.automaton.specs.declared.state_map.StateMap.{StateMap}
use Rattle.automaton.specs.States.{is_state, next_state}

-- where a map leads a state
abbrev pub leads : StateMap → ℕ → ℕ
leads x s = slice_index x.to s

-- the map that leads s to f s
abbrev pub map_by : (ℕ → ℕ) → StateMap
map_by f = record { to = map f (range_with_len 0 16) }

abbrev pub identity : StateMap
identity = map_by (λ s. s)

-- first x, then y
abbrev pub composed : StateMap → StateMap → StateMap
composed x y = map_by (λ s. leads y (leads x s))

-- where a row leads from s; what is no state stays
abbrev pub moved : AutomatonData → Kind → ℕ → ℕ
moved d k s = cond (is_state d s) (next_state d k s) s

-- where a row leads each state
abbrev pub step : AutomatonData → Kind → StateMap
step d k = map_by (moved d k)

-- s may be led to t: a state to a state, what is no state to itself
abbrev pub may_lead : AutomatonData → ℕ → ℕ → Bool
may_lead d s t = cond (is_state d s) (is_state d t) (t == s)

-- the maps of the states of an automaton
abbrev pub is_map : AutomatonData → StateMap → Bool
is_map d x = length x.to == 16 && all_below 16 (λ s. may_lead d s (leads x s))
