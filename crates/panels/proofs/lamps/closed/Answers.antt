use Rattle.automaton.specs.Meanings.{automaton_meaning}
use Rattle.panels.specs.Data.{closed_data}
use Rattle.panels.specs.Sayings.{Outside}
use Rattle.panels.proofs.Accepting.{closed_passes, automaton_made, runs_made}
use Rattle.panels.proofs.Closing.{closed_said}
use Rattle.panels.proofs.lamps.closed.Goals as goal

pub returns : goal.returns
returns c =
    let a = c.new.result in
    let given = c.closed_data.result in
    let is = c.closed_data.ensures.value in
    record {
      meaning = automaton_made a closed_data given is closed_passes c.new.ensures.meaning;
      language = runs_made (automaton_meaning a) closed_data given Outside is closed_passes c.new.ensures.runs closed_said;
      counted = c.new.ensures.fresh;
    }
