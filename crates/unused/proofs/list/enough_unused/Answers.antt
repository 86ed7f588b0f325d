use Rattle.std.proofs.Common.{◌+◌, ◌-◌, arith}
use Rattle.unused.proofs.Threading.{finding_no, finding_more}
use Rattle.unused.proofs.list.enough_unused.Goals as goal

pub returns-in_default : goal.returns-in_default
returns-in_default g c = record { value = finding_no c.args.cells.now c.args.unused.first c.args.number c.loop.rest.first (c.args.number - c.loop.counter) (omega arith) c.loop.invariant c.in_default.ensures.value }

pub loop-preserved : goal.loop-preserved
loop-preserved g c = finding_more c.args.cells.now c.args.unused.first c.args.number c.loop.rest.first (c.args.number - c.loop.counter) (omega arith) c.loop.invariant c.in-Some.taken (c.args.number - (c.loop.counter + 1)) (omega arith) c.in-Some.ensures.value
