-- What an automaton means: the maps of its states, one after another.
use Rattle.std.specs.Prelude.{ℕ, zero, suc, Bool, false}
use Rattle.monoid.specs.Meaning.{Meaning}
use Rattle.automaton.specs.declared.data.AutomatonData.{AutomatonData}
use Rattle.automaton.specs.declared.state_map.StateMap.{StateMap}
use Rattle.automaton.specs.declared.automaton.Automaton.{Automaton}
use Rattle.automaton.specs.States.{is_lit}
use Rattle.automaton.specs.Checks.{or_trivial}
use Rattle.automaton.specs.Maps.{leads, identity, composed, step, is_map}

-- lamp 0 is lit where a map leads the start to a lit state; there is no other lamp
abbrev pub lights_at : AutomatonData → StateMap → ℕ → Bool
lights_at d x zero = is_lit d (leads x d.start)
lights_at d x (suc j) = false

abbrev pub running : AutomatonData → Meaning StateMap
running d = record {
  sound = is_map d;
  unit = identity;
  mul = composed;
  image = step d;
  width = 1;
  lit = lights_at d;
}

-- what is made from data: the automaton that they say, or the trivial one where they are declined
abbrev pub automaton_from : AutomatonData → Meaning StateMap
automaton_from d = running (or_trivial d)

abbrev pub automaton_meaning : Automaton → Meaning StateMap
automaton_meaning a = running a.data
