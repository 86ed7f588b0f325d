use borrow.Author.Tests.{true-ltb}
use Rattle.climb.proofs.Picking.{plans_left, plans_right}
use Rattle.climb.proofs.plan.choose.Goals as goal

pub returns-then-too_high : goal.returns-then-too_high
returns-then-too_high g c = record { value = plans_left c.args.cells.now c.args.row c.args.links.left c.args.links.right c.in_ok-below.below c.in_ok-above.above c.in_ok-below.ensures.value c.in_ok-above.ensures.value c.pick.result (true-ltb _ _ c.if-too_high.ensures.value) c.pick.ensures.value }

pub returns-then-too_high-2 : goal.returns-then-too_high-2
returns-then-too_high-2 g c = record { value = plans_right c.args.cells.now c.args.row c.args.links.left c.args.links.right c.in_ok-below.below c.in_ok-above.above c.in_ok-below.ensures.value c.in_ok-above.ensures.value c.pick-then-too_high-2.result (true-ltb _ _ c.if-too_high-2.ensures.value) c.pick-then-too_high-2.ensures.value }
