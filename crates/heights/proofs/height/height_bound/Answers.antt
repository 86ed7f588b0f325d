use Rattle.std.proofs.Common.{arith}
use Rattle.heights.proofs.Highest.{bounds_at, bounds_no}
use Rattle.heights.proofs.height.height_bound.Goals as goal

pub returns-in_err-rows : goal.returns-in_err-rows
returns-in_err-rows g c = record { value = bounds_no c.args.cells.now c.args.root c.from_residual.result c.in_err-rows.ensures.value }

pub returns : goal.returns
returns g c = record { value = bounds_at c.args.cells.now c.args.root c.in_ok-rows.rows c.most_height.result c.in_ok-rows.ensures.value (omega arith) c.most_height.ensures.value }
