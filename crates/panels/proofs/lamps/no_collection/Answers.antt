use Rattle.rows.specs.declared.kind.Kind.TheVariants.{Collection}
use Rattle.table.specs.Meanings.{table_meaning}
use Rattle.panels.specs.Data.{no_collection_data}
use Rattle.panels.specs.Sayings.{Has}
use Rattle.panels.proofs.Accepting.{no_collection_passes, table_made, small_made, language_made}
use Rattle.panels.proofs.Collecting.{uncollected_said}
use Rattle.panels.proofs.lamps.no_collection.Goals as goal

pub returns : goal.returns
returns c =
    let t = c.new.result in
    let given = c.no_collection_data.result in
    let is = c.no_collection_data.ensures.value in
    record {
      meaning = table_made t no_collection_data given is no_collection_passes c.new.ensures.meaning;
      small = small_made t no_collection_data given is no_collection_passes c.new.ensures.small;
      language = language_made (table_meaning t) no_collection_data given (λ w. Has Collection w → ⊥) is no_collection_passes c.new.ensures.multiplies uncollected_said;
      counted = c.new.ensures.fresh;
    }
