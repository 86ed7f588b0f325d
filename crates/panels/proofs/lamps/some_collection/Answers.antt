use Rattle.rows.specs.declared.kind.Kind.TheVariants.{Collection}
use Rattle.table.specs.Meanings.{table_meaning}
use Rattle.panels.specs.Data.{some_collection_data}
use Rattle.panels.specs.Sayings.{Has}
use Rattle.panels.proofs.Accepting.{some_collection_passes, table_made, small_made, language_made}
use Rattle.panels.proofs.Collecting.{collected_said}
use Rattle.panels.proofs.lamps.some_collection.Goals as goal

pub returns : goal.returns
returns c =
    let t = c.new.result in
    let given = c.some_collection_data.result in
    let is = c.some_collection_data.ensures.value in
    record {
      meaning = table_made t some_collection_data given is some_collection_passes c.new.ensures.meaning;
      small = small_made t some_collection_data given is some_collection_passes c.new.ensures.small;
      language = language_made (table_meaning t) some_collection_data given (Has Collection) is some_collection_passes c.new.ensures.multiplies collected_said;
      counted = c.new.ensures.fresh;
    }
