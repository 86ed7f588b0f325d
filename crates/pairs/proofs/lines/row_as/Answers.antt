use Rattle.pairs.proofs.Grid.{row_bit}
use Rattle.pairs.proofs.lines.row_as.Goals as goal

pub returns : goal.returns
returns c = record { value = row_bit c.args.bits c.args.from.value c.args.to.value }
