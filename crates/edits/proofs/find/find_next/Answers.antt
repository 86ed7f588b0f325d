use Rattle.std.proofs.Common.{◌<◌, ◌∷◌, refl, ◌∙◌, arith}
use Rattle.cells.specs.declared.links.Side.TheVariants.{Left}
use Rattle.edits.proofs.Sinking.{sinking_start, sinking_more, sunk, sinking_no_cell, sinking_no_deeper}
use Rattle.edits.proofs.Pushing.{push_is, push_deeper}
use Rattle.edits.proofs.Descending.{lowering_start, lowering_on, lowered_no_cell, lowered, lowered_deep}
use Rattle.edits.proofs.find.find_next.Goals as goal

pub loop-init : goal.loop-init
loop-init g c =
    let row = c.args.row.now in
    let way = row.way in
    record {
      deep = refl;
      lowering = lowering_start c.args.cells.now row c.args.right c.push.new.self c.push.ensures.after;
      sinking = λ f up r ei eb al s e h. sinking_start c.args.cells.now f up r row.place c.args.right way c.push.new.self c.push.ensures.within ei eb al s e h c.push.ensures.after;
    }

pub returns-in_err-cell-clause-value : goal.returns-in_err-cell-clause-value
returns-in_err-cell-clause-value g c = λ f up r ei eb al s e h. absurd (sinking_no_cell c.args.cells.now (f ∷ up) r c.loop.place c.loop.way (c.loop.invariant.sinking f up r ei eb al s e h) c.in_err-cell.ensures.value)

pub returns-in_default-clause-value : goal.returns-in_default-clause-value
returns-in_default-clause-value g c = λ f up r ei eb al s e h. (_, refl, sunk c.args.cells.now (f ∷ up) r c.loop.place c.loop.way c.in_ok-cell.cell (c.loop.invariant.sinking f up r ei eb al s e h) c.in_ok-cell.ensures.value c.in_default.is)

pub loop-preserved : goal.loop-preserved
loop-preserved g c =
    let way = c.loop.way in
    let deep = c.loop.invariant.deep in
    let room : way.depth < 24 = omega arith in
    record {
      deep = push_deeper way c.push-in-loop.new.self c.loop.place Left room c.push-in-loop.ensures.after ∙ (let d = deep in omega arith);
      lowering = lowering_on c.args.cells.now c.args.row.now c.args.right c.loop.counter way c.loop.place c.loop.invariant.lowering c.loop-test.true c.in_ok-cell.cell c.in_ok-cell.ensures.value c.in-Some.next c.push-in-loop.new.self c.in-Some.is (push_is way c.push-in-loop.new.self c.loop.place Left room c.push-in-loop.ensures.after);
      sinking = λ f up r ei eb al s e h. sinking_more c.args.cells.now (f ∷ up) r c.loop.place way c.in_ok-cell.cell (c.loop.invariant.sinking f up r ei eb al s e h) c.in_ok-cell.ensures.value c.in-Some.next c.push-in-loop.new.self c.in-Some.is c.push-in-loop.ensures.within room c.push-in-loop.ensures.after;
    }

pub returns-clause-value : goal.returns-clause-value
returns-clause-value g c =
    let deep = c.loop.invariant.deep in
    λ f up r ei eb al s e h. absurd (sinking_no_deeper c.args.cells.now (f ∷ up) r c.loop.place c.loop.way (c.loop.invariant.sinking f up r ei eb al s e h) (omega arith))

pub returns-in_err-cell-clause-exact : goal.returns-in_err-cell-clause-exact
returns-in_err-cell-clause-exact g c = c.from_residual.ensures ∙ lowered_no_cell c.args.cells.now c.args.row.now c.args.right c.loop.counter c.loop.way c.loop.place c.loop.invariant.lowering c.loop-test.true c.in_err-cell.ensures.value

pub returns-in_default-clause-exact : goal.returns-in_default-clause-exact
returns-in_default-clause-exact g c = lowered c.args.cells.now c.args.row.now c.args.right c.loop.counter c.loop.way c.loop.place c.loop.invariant.lowering c.loop-test.true c.in_ok-cell.cell c.in_ok-cell.ensures.value c.in_default.is

pub returns-clause-exact : goal.returns-clause-exact
returns-clause-exact g c = lowered_deep c.args.cells.now c.args.row.now c.args.right c.loop.counter c.loop.way c.loop.place c.loop.invariant.lowering c.loop-test.false
