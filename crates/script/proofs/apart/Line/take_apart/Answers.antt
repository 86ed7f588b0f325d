use Rattle.std.proofs.Common.{sym, ◌∙◌}
use Rattle.script.proofs.Parting.{field_first}
use Rattle.script.proofs.apart.Line.take_apart.Goals as goal

pub command-requires : goal.command-requires
command-requires c = record { first = c.cut_field.ensures.first ∙ sym (field_first c.args.self.text.now) }
