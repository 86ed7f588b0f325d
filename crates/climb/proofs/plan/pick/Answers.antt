use Rattle.std.proofs.Common.{ap, ◌∙◌}
use Rattle.cells.specs.Sides.{at}
use Rattle.climb.specs.Triples.{branch}
use Rattle.climb.proofs.Picking.{no_child, no_outer, by_outer, no_inner, by_inner}
use Rattle.climb.proofs.plan.pick.Goals as goal

pub returns-in_err-child : goal.returns-in_err-child
returns-in_err-child g c = record { value = no_child c.args.cells.now c.args.row c.args.links c.at.result c.at-far.result c.args.side c.from_residual.result c.at.ensures.value c.in_err-child.ensures.value }

pub returns-in_err-deep : goal.returns-in_err-deep
returns-in_err-deep g c =
    let child = c.in_ok-child.child in
    record { value = no_outer c.args.cells.now c.args.row c.args.links c.at.result c.at-far.result child c.at-outer.result c.at-inner.result c.args.side c.from_residual-in_err-deep.result c.at.ensures.value c.in_ok-child.ensures.value c.at-outer.ensures.value (c.at-inner.ensures.value ∙ ap (branch child) c.other-opposite.ensures.value) c.if-outer-inner.true c.in_err-deep.ensures.value }

pub returns-then-outer-inner : goal.returns-then-outer-inner
returns-then-outer-inner g c =
    let child = c.in_ok-child.child in
    let opposite = c.other-opposite.ensures.value in
    record { value = by_outer c.args.cells.now c.args.row c.args.links c.at.result c.at-far.result child c.at-outer.result c.at-inner.result c.in_ok-deep.deep c.outer.result c.args.side c.at.ensures.value (c.at-far.ensures.value ∙ ap (at c.args.links) opposite) c.in_ok-child.ensures.value c.at-outer.ensures.value (c.at-inner.ensures.value ∙ ap (branch child) opposite) c.if-outer-inner.true c.in_ok-deep.ensures.value c.outer.ensures.value }

pub returns-in_err-deep-2 : goal.returns-in_err-deep-2
returns-in_err-deep-2 g c =
    let child = c.in_ok-child.child in
    record { value = no_inner c.args.cells.now c.args.row c.args.links c.at.result c.at-far.result child c.at-outer.result c.at-inner.result c.args.side c.from_residual-in_err-deep-2.result c.at.ensures.value c.in_ok-child.ensures.value c.at-outer.ensures.value (c.at-inner.ensures.value ∙ ap (branch child) c.other-opposite.ensures.value) c.if-outer-inner.false c.in_err-deep-2.ensures.value }

pub returns : goal.returns
returns g c =
    let child = c.in_ok-child.child in
    let opposite = c.other-opposite.ensures.value in
    record { value = by_inner c.args.cells.now c.args.row c.args.links c.at.result c.at-far.result child c.at-outer.result c.at-inner.result c.in_ok-deep-2.deep c.inner.result c.args.side c.at.ensures.value (c.at-far.ensures.value ∙ ap (at c.args.links) opposite) c.in_ok-child.ensures.value c.at-outer.ensures.value (c.at-inner.ensures.value ∙ ap (branch child) opposite) c.if-outer-inner.false c.in_ok-deep-2.ensures.value c.inner.ensures.value }
