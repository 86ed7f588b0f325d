use Rattle.table.specs.Meanings.{table_meaning}
use Rattle.panels.specs.Data.{first_data}
use Rattle.panels.specs.Sayings.{StartsCollected}
use Rattle.panels.proofs.Accepting.{first_passes, table_made, language_made}
use Rattle.panels.proofs.Collecting.{first_said}
use Rattle.panels.proofs.lamps.first_collection.Goals as goal

pub returns : goal.returns
returns c =
    let t = c.new.result in
    let given = c.first_data.result in
    let is = c.first_data.ensures.value in
    record {
      meaning = table_made t first_data given is first_passes c.new.ensures.meaning;
      language = language_made (table_meaning t) first_data given StartsCollected is first_passes c.new.ensures.multiplies first_said;
      counted = c.new.ensures.fresh;
    }
