use Rattle.automaton.specs.Meanings.{automaton_meaning}
use Rattle.panels.specs.Data.{adjoining_data}
use Rattle.panels.specs.Sayings.{Adjoining}
use Rattle.panels.proofs.Accepting.{adjoining_passes, automaton_made, runs_made}
use Rattle.panels.proofs.Adjoining.{adjoining_said}
use Rattle.panels.proofs.lamps.adjoining_notes.Goals as goal

pub returns : goal.returns
returns c =
    let a = c.new.result in
    let given = c.adjoining_data.result in
    let is = c.adjoining_data.ensures.value in
    record {
      meaning = automaton_made a adjoining_data given is adjoining_passes c.new.ensures.meaning;
      language = runs_made (automaton_meaning a) adjoining_data given Adjoining is adjoining_passes c.new.ensures.runs adjoining_said;
      counted = c.new.ensures.fresh;
    }
