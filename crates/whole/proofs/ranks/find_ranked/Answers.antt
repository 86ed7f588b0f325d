use Rattle.std.proofs.Common.{refl, ◌∙◌}
use Rattle.whole.proofs.Descending.{sought_no_place, sought_no_cell, sought_found, sought_no_size, sought_left, sought_right, sought_deep}
use Rattle.whole.proofs.Seeking.{seeking_start, seeking_at, seeking_left, seeking_right, found, no_none, no_cell, no_size, no_deeper}
use Rattle.whole.proofs.ranks.find_ranked.Goals as goal

pub loop-init : goal.loop-init
loop-init g c = (λ t h a w. seeking_start c.args.cells.now t c.args.rank c.args.root h a w, refl)

pub returns-in_err-place : goal.returns-in_err-place
returns-in_err-place g c = record { value = λ t h a w. absurd (no_none c.args.cells.now t c.args.rank c.loop.rest c.loop.counter (seeking_at (c.loop.invariant.0 t h a w) c.in_err-place.was)); exact = c.from_residual.ensures ∙ sought_no_place c.args.cells.now c.args.root c.args.rank c.loop.counter c.loop.at c.loop.rest c.loop.invariant.1 c.loop-test.true c.in_err-place.was }

pub returns-in_err-cell : goal.returns-in_err-cell
returns-in_err-cell g c = record { value = λ t h a w. absurd (no_cell c.args.cells.now t c.args.rank c.loop.rest c.loop.counter c.in_ok-place.place (seeking_at (c.loop.invariant.0 t h a w) c.in_ok-place.was) c.in_err-cell.ensures.value); exact = c.from_residual-in_err-cell.ensures ∙ sought_no_cell c.args.cells.now c.args.root c.args.rank c.loop.counter c.loop.at c.loop.rest c.loop.invariant.1 c.loop-test.true c.in_ok-place.place c.in_ok-place.was c.in_err-cell.ensures.value }

pub returns-then-rest-cell : goal.returns-then-rest-cell
returns-then-rest-cell g c = record { value = λ t h a w. (c.in_ok-place.place, refl, found c.args.cells.now t c.args.rank c.loop.rest c.loop.counter c.in_ok-place.place c.in_ok-cell.cell (seeking_at (c.loop.invariant.0 t h a w) c.in_ok-place.was) c.in_ok-cell.ensures.value c.if-rest-cell.true); exact = sought_found c.args.cells.now c.args.root c.args.rank c.loop.counter c.loop.at c.loop.rest c.loop.invariant.1 c.loop-test.true c.in_ok-place.place c.in_ok-place.was c.in_ok-cell.cell c.in_ok-cell.ensures.value c.if-rest-cell.true }

pub returns-in_err-before : goal.returns-in_err-before
returns-in_err-before g c = record { value = λ t h a w. absurd (no_size c.args.cells.now t c.args.rank c.loop.rest c.loop.counter c.in_ok-place.place c.in_ok-cell.cell (seeking_at (c.loop.invariant.0 t h a w) c.in_ok-place.was) c.in_ok-cell.ensures.value c.in_err-before.ensures.value); exact = c.from_residual-in_err-before.ensures ∙ sought_no_size c.args.cells.now c.args.root c.args.rank c.loop.counter c.loop.at c.loop.rest c.loop.invariant.1 c.loop-test.true c.in_ok-place.place c.in_ok-place.was c.in_ok-cell.cell c.in_ok-cell.ensures.value c.if-rest-cell.false c.in_err-before.ensures.stored }

pub loop-preserved-then-rest-before : goal.loop-preserved-then-rest-before
loop-preserved-then-rest-before g c = (λ t h a w. seeking_left c.args.cells.now t c.args.rank c.loop.rest c.loop.counter c.in_ok-place.place c.in_ok-cell.cell (seeking_at (c.loop.invariant.0 t h a w) c.in_ok-place.was) c.in_ok-cell.ensures.value c.in_ok-before.before c.in_ok-before.ensures.value c.if-rest-cell.false c.if-rest-before.true, sought_left c.args.cells.now c.args.root c.args.rank c.loop.counter c.loop.at c.loop.rest c.loop.invariant.1 c.loop-test.true c.in_ok-place.place c.in_ok-place.was c.in_ok-cell.cell c.in_ok-cell.ensures.value c.if-rest-cell.false c.in_ok-before.before c.in_ok-before.ensures.stored c.if-rest-before.true)

pub loop-preserved : goal.loop-preserved
loop-preserved g c = (λ t h a w. seeking_right c.args.cells.now t c.args.rank c.loop.rest c.loop.counter c.in_ok-place.place c.in_ok-cell.cell (seeking_at (c.loop.invariant.0 t h a w) c.in_ok-place.was) c.in_ok-cell.ensures.value c.in_ok-before.before c.in_ok-before.ensures.value c.if-rest-cell.false c.if-rest-before.false, sought_right c.args.cells.now c.args.root c.args.rank c.loop.counter c.loop.at c.loop.rest c.loop.invariant.1 c.loop-test.true c.in_ok-place.place c.in_ok-place.was c.in_ok-cell.cell c.in_ok-cell.ensures.value c.if-rest-cell.false c.in_ok-before.before c.in_ok-before.ensures.stored c.if-rest-before.false)

pub returns : goal.returns
returns g c = record { value = λ t h a w. absurd (no_deeper c.args.cells.now t c.args.rank c.loop.rest c.loop.counter c.loop.at (c.loop.invariant.0 t h a w) c.loop-test.false); exact = sought_deep c.args.cells.now c.args.root c.args.rank c.loop.counter c.loop.at c.loop.rest c.loop.invariant.1 c.loop-test.false }
