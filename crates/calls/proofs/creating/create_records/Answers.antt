use Rattle.std.proofs.Common.{min, sym, ap, ◌∙◌}
use Rattle.calls.proofs.Created.{created}
use Rattle.calls.proofs.creating.create_records.Goals as goal

pub returns-clause-sound : goal.returns-clause-sound
returns-clause-sound g c =
    let within = c.from in
    λ lawful m. created c.empty.result within.result c.args.cells.now c.make_unused-unused.new.cells c.make_unused-unused.result.first (within.ensures ∙ c.capacity-within.ensures.value) c.make_unused-unused.auto.cells (c.empty.ensures.capacity ∙ ap (λ k. min k 4096) (sym within.ensures)) lawful m c.empty.ensures.sheets c.empty.ensures.head c.make_unused-unused.ensures.value
