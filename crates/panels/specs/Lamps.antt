-- What each lamp of the panels means, as a closed term.
use Rattle.std.specs.Prelude.{ℕ, Some}
use Rattle.monoid.specs.Meaning.{Meaning}
use Rattle.automaton.specs.declared.state_map.StateMap.{StateMap}
use Rattle.automaton.specs.Meanings.{running}
use Rattle.counter.specs.Meanings.{counting}
use Rattle.table.specs.Meanings.{table_of, small_of}
use Rattle.layers.specs.Not.{not_meaning}
use Rattle.layers.specs.Reversed.{reversed_meaning}
use Rattle.before_after.specs.declared.split.Split.{Split}
use Rattle.before_after.specs.BeforeAfter.{before_and_after}
use Rattle.panels.specs.Data.{closed_data, page_data, adjoining_data, some_collection_data, no_collection_data, summary_marks, first_data}

abbrev pub closed_meaning : Meaning StateMap
closed_meaning = running closed_data

abbrev pub page_meaning : Meaning ℕ
page_meaning = counting page_data.modulus page_data.weights (Some page_data.residue)

abbrev pub summary_meaning : Meaning (Split ℕ ℕ)
summary_meaning = before_and_after (table_of some_collection_data) (small_of some_collection_data) (table_of no_collection_data) (small_of no_collection_data) summary_marks

abbrev pub adjoining_meaning : Meaning StateMap
adjoining_meaning = running adjoining_data

abbrev pub notes_meaning : Meaning StateMap
notes_meaning = not_meaning adjoining_meaning

abbrev pub last_meaning : Meaning ℕ
last_meaning = reversed_meaning (table_of first_data)
