use Rattle.std.proofs.Common.{arith}
use Rattle.pairs.proofs.Grid.{column_as_bit}
use Rattle.pairs.proofs.lines.column_as.Goals as goal

pub returns : goal.returns
returns c = record { value = λ x y hx hy. column_as_bit c.args.bits c.args.from.value c.args.to.value y x (omega arith) hy hx }
