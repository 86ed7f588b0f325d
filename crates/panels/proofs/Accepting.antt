-- The data of the panels pass their checks.
use Rattle.std.proofs.Common.{◌≡◌, ℕ, true, cond, ◌↔◌, refl, ap, ◌∙◌, subst}
use Rattle.monoid.specs.Meaning.{Meaning}
use Rattle.monoid.specs.Words.{Word, Recognises}
use Rattle.checks.specs.Verdicts.{accepted}
use Rattle.checks.specs.Below.{all_below}
use Rattle.automaton.specs.declared.automaton.Automaton.{Automaton}
use Rattle.automaton.specs.declared.data.AutomatonData.{AutomatonData}
use Rattle.automaton.specs.declared.state_map.StateMap.{StateMap}
use Rattle.automaton.specs.Checks.{verdict_of as automaton_verdict, trivial_data as one_state}
use Rattle.automaton.specs.Meanings.{running, automaton_from, automaton_meaning}
use Rattle.automaton.specs.Languages.{ends_lit, Runs}
use Rattle.counter.specs.Checks.{verdict_of as counter_verdict}
use Rattle.table.specs.Checks.{verdict_of as table_verdict}
use Rattle.table.specs.declared.data.TableData.{TableData}
use Rattle.table.specs.declared.table.Table.{Table}
use Rattle.table.specs.Tables.{trivial_data}
use Rattle.table.specs.Meanings.{table_meaning, table_small, table_of, small_of, table_from, small_from}
use Rattle.table.specs.Languages.{lit_product, Multiplies}
use Rattle.panels.proofs.Saying.{said}
use Rattle.panels.specs.Data.{closed_data, page_data, adjoining_data, some_collection_data, no_collection_data, first_data}

pub closed_passes : accepted (automaton_verdict closed_data) ≡ true
unfolding all_below
closed_passes = refl

pub adjoining_passes : accepted (automaton_verdict adjoining_data) ≡ true
unfolding all_below
adjoining_passes = refl

pub page_passes : accepted (counter_verdict page_data) ≡ true
unfolding all_below
page_passes = refl

pub some_collection_passes : accepted (table_verdict some_collection_data) ≡ true
unfolding all_below
some_collection_passes = refl

pub no_collection_passes : accepted (table_verdict no_collection_data) ≡ true
unfolding all_below
no_collection_passes = refl

pub first_passes : accepted (table_verdict first_data) ≡ true
unfolding all_below
first_passes = refl

-- what is made from table data that pass is the table that they say
pub table_made : (t : Table) (d given : TableData) → given ≡ d → accepted (table_verdict d) ≡ true → table_meaning t ≡ table_from given → table_meaning t ≡ table_of d
table_made t d given is passes made = made ∙ ap table_from is ∙ ap (λ b. table_of (cond b d trivial_data)) passes

pub small_made : (t : Table) (d given : TableData) → given ≡ d → accepted (table_verdict d) ≡ true → table_small t ≡ small_from given → table_small t ≡ small_of d
small_made t d given is passes made = made ∙ ap small_from is ∙ ap (λ b. small_of (cond b d trivial_data)) passes

pub language_made : (m : Meaning ℕ) (d given : TableData) (L : Word → Type 0) → given ≡ d → accepted (table_verdict d) ≡ true → Multiplies given m → ((w : Word) → lit_product d w ↔ L w) → Recognises m 0 L
language_made m d given L is passes multiplies same = said m 0 (lit_product d) L ((subst (λ (e : TableData). Multiplies e m) is multiplies).taken passes) same

-- the same of automaton data
pub automaton_made : (a : Automaton) (d given : AutomatonData) → given ≡ d → accepted (automaton_verdict d) ≡ true → automaton_meaning a ≡ automaton_from given → automaton_meaning a ≡ running d
automaton_made a d given is passes made = made ∙ ap automaton_from is ∙ ap (λ b. running (cond b d one_state)) passes

pub runs_made : (m : Meaning StateMap) (d given : AutomatonData) (L : Word → Type 0) → given ≡ d → accepted (automaton_verdict d) ≡ true → Runs given m → ((w : Word) → ends_lit d w ↔ L w) → Recognises m 0 L
runs_made m d given L is passes runs same = said m 0 (ends_lit d) L ((subst (λ (e : AutomatonData). Runs e m) is runs).taken passes) same
