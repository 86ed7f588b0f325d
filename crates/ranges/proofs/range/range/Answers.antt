use Rattle.std.proofs.Common.{sym, refl, ◌∙◌, arith}
use Rattle.cells.proofs.Lookup.{none-some}
use Rattle.ranges.specs.Parts.{Never}
use Rattle.ranges.proofs.Ranging.{range_none, costs_none, range_refused, costs_refused, no_fork, no_cell, range_no_front, ranged, never_left, never_right, costs_no_front, costs_both}
use Rattle.ranges.proofs.range.range.Goals as goal

pub returns-then-first-last-clause-value : goal.returns-then-first-last-clause-value
returns-then-first-last-clause-value g c =
    let r = g.R.Recogniser in
    let s = c.args.recogniser.now in
    λ o. range_none c.args.cells.now c.args.root c.args.first c.args.last (r.meaning s) c.unit.result c.if-first-last.true (c.unit.ensures.value o)

pub returns-then-first-last-clause-refused : goal.returns-then-first-last-clause-refused
returns-then-first-last-clause-refused g c = λ e. absurd (none-some (sym e))

pub returns-then-first-last-clause-asked : goal.returns-then-first-last-clause-asked
returns-then-first-last-clause-asked g c =
    let r = g.R.Recogniser in
    let s = c.args.recogniser.now in
    record { same = refl; order = λ o. o; counted = costs_none c.args.cells.now c.args.root c.args.first c.args.last (r.tally s) }

pub returns-in_err-fork-clause-value : goal.returns-in_err-fork-clause-value
returns-in_err-fork-clause-value g c =
    let r = g.R.Recogniser in
    let s = c.args.recogniser.now in
    let never : Never c.args.cells.now c.args.root c.args.last = no_fork c.args.cells.now c.args.root c.args.first c.args.last c.if-first-last.false c.in_err-fork.ensures.value in
    λ o. range_refused c.args.cells.now c.args.root c.args.first c.args.last (r.meaning s) c.from_residual.result never

pub returns-in_err-fork-clause-refused : goal.returns-in_err-fork-clause-refused
returns-in_err-fork-clause-refused g c =
    let never : Never c.args.cells.now c.args.root c.args.last = no_fork c.args.cells.now c.args.root c.args.first c.args.last c.if-first-last.false c.in_err-fork.ensures.value in
    λ _. never

pub returns-in_err-fork-clause-asked : goal.returns-in_err-fork-clause-asked
returns-in_err-fork-clause-asked g c =
    let r = g.R.Recogniser in
    let s = c.args.recogniser.now in
    let never : Never c.args.cells.now c.args.root c.args.last = no_fork c.args.cells.now c.args.root c.args.first c.args.last c.if-first-last.false c.in_err-fork.ensures.value in
    record { same = refl; order = λ o. o; counted = costs_refused c.args.cells.now c.args.root c.args.first c.args.last (r.tally s) (r.tally s) (0, omega arith, omega arith) never }

pub returns-in_err-cell-clause-value : goal.returns-in_err-cell-clause-value
returns-in_err-cell-clause-value g c =
    let r = g.R.Recogniser in
    let s = c.args.recogniser.now in
    let never : Never c.args.cells.now c.args.root c.args.last = no_cell c.args.cells.now c.args.root c.args.first c.args.last c.if-first-last.false c.in_ok-fork.fork c.in_ok-fork.ensures.value c.in_err-cell.ensures.value in
    λ o. range_refused c.args.cells.now c.args.root c.args.first c.args.last (r.meaning s) c.from_residual-in_err-cell.result never

pub returns-in_err-cell-clause-refused : goal.returns-in_err-cell-clause-refused
returns-in_err-cell-clause-refused g c =
    let never : Never c.args.cells.now c.args.root c.args.last = no_cell c.args.cells.now c.args.root c.args.first c.args.last c.if-first-last.false c.in_ok-fork.fork c.in_ok-fork.ensures.value c.in_err-cell.ensures.value in
    λ _. never

pub returns-in_err-cell-clause-asked : goal.returns-in_err-cell-clause-asked
returns-in_err-cell-clause-asked g c =
    let r = g.R.Recogniser in
    let s = c.args.recogniser.now in
    let never : Never c.args.cells.now c.args.root c.args.last = no_cell c.args.cells.now c.args.root c.args.first c.args.last c.if-first-last.false c.in_ok-fork.fork c.in_ok-fork.ensures.value c.in_err-cell.ensures.value in
    record { same = refl; order = λ o. o; counted = costs_refused c.args.cells.now c.args.root c.args.first c.args.last (r.tally s) (r.tally s) (0, omega arith, omega arith) never }

pub returns-in_err-front-clause-value : goal.returns-in_err-front-clause-value
returns-in_err-front-clause-value g c =
    let s = c.args.recogniser.now in
    let told = c.in_err-front.ensures in
    let met = g.met.R.Recogniser in
    λ o. range_no_front c.args.cells.now c.args.root c.args.first c.args.last c.if-first-last.false c.in_ok-fork.fork c.in_ok-fork.ensures.value c.in_ok-cell.cell c.in_ok-cell.ensures.value (met.lawful s o) c.image-image.result (c.image-image.ensures.value o) (told.value o) c.from_residual-in_err-front.result

pub returns-in_err-front-clause-refused : goal.returns-in_err-front-clause-refused
returns-in_err-front-clause-refused g c =
    let told = c.in_err-front.ensures in
    λ _. never_left c.args.cells.now c.args.root c.args.first c.args.last c.if-first-last.false c.in_ok-fork.fork c.in_ok-fork.ensures.value c.in_ok-cell.cell c.in_ok-cell.ensures.value (told.refused refl)

pub returns-in_err-front-clause-asked : goal.returns-in_err-front-clause-asked
returns-in_err-front-clause-asked g c =
    let s = c.args.recogniser.now in
    let told = c.in_err-front.ensures in
    record { same = told.asked.same; order = told.asked.order; counted = costs_no_front c.args.cells.now c.args.root c.args.first c.args.last c.if-first-last.false c.in_ok-fork.fork c.in_ok-fork.ensures.value c.in_ok-cell.cell c.in_ok-cell.ensures.value (g.R.Recogniser.tally s) (g.R.Recogniser.tally c.take_end.new.recogniser) told.asked.counted }

pub returns-clause-value : goal.returns-clause-value
returns-clause-value g c =
    let r = g.R.Recogniser in
    let s = c.args.recogniser.now in
    let front = c.in_ok-front.ensures in
    let whole = c.take_end-2.ensures in
    let met = g.met.R.Recogniser in
    λ o. ranged c.args.cells.now c.args.root c.args.first c.args.last c.if-first-last.false c.in_ok-fork.fork c.in_ok-fork.ensures.value c.in_ok-cell.cell c.in_ok-cell.ensures.value (met.lawful s o) c.image-image.result (c.image-image.ensures.value o) (r.meaning c.take_end.new.recogniser) c.in_ok-front.front c.take_end-2.result front.asked.same (front.value o) (whole.value (front.asked.order o))

pub returns-clause-refused : goal.returns-clause-refused
returns-clause-refused g c =
    let whole = c.take_end-2.ensures in
    λ e. never_right c.args.cells.now c.args.root c.args.first c.args.last c.if-first-last.false c.in_ok-fork.fork c.in_ok-fork.ensures.value c.in_ok-cell.cell c.in_ok-cell.ensures.value (whole.refused e)

pub returns-clause-asked : goal.returns-clause-asked
returns-clause-asked g c =
    let r = g.R.Recogniser in
    let s = c.args.recogniser.now in
    let front = c.in_ok-front.ensures in
    let whole = c.take_end-2.ensures in
    record { same = whole.asked.same ∙ front.asked.same; order = λ o. whole.asked.order (front.asked.order o); counted = costs_both c.args.cells.now c.args.root c.args.first c.args.last c.if-first-last.false c.in_ok-fork.fork c.in_ok-fork.ensures.value c.in_ok-cell.cell c.in_ok-cell.ensures.value (r.tally s) (r.tally c.take_end.new.recogniser) (r.tally c.take_end-2.new.recogniser) front.asked.counted whole.asked.counted }
