use Rattle.std.proofs.Common.{None, refl, ◌∙◌, arith}
use Rattle.ranges.proofs.Descending.{search_no_place, search_no_cell, search_no_size, search_found, search_left, search_right, search_deep}
use Rattle.ranges.proofs.Forking.{fork_start, fork_no_place, fork_no_deeper, fork_no_cell, fork_no_size, fork_left, fork_right, fork-found}
use Rattle.ranges.proofs.fork.find_fork.Goals as goal

pub loop-init : goal.loop-init
loop-init g c = (fork_start c.args.cells.now c.args.root c.args.first c.args.last, refl)

pub returns-in_err-place : goal.returns-in_err-place
returns-in_err-place g c =
    let l = c.loop in
    record { value = fork_no_place c.args.cells.now c.args.root c.args.first c.args.last l.at l.from l.to l.counter l.invariant.0 c.in_err-place.was c.from_residual.result; exact = c.from_residual.ensures ∙ search_no_place c.args.cells.now c.args.root c.args.first c.args.last l.counter l.at l.from l.to l.invariant.1 c.loop-test.true c.in_err-place.was }

pub returns-in_err-cell : goal.returns-in_err-cell
returns-in_err-cell g c =
    let l = c.loop in
    record { value = fork_no_cell c.args.cells.now c.args.root c.args.first c.args.last l.at l.from l.to l.counter l.invariant.0 c.in_ok-place.place c.in_ok-place.was c.in_err-cell.ensures.value c.from_residual-in_err-cell.result; exact = c.from_residual-in_err-cell.ensures ∙ search_no_cell c.args.cells.now c.args.root c.args.first c.args.last l.counter l.at l.from l.to l.invariant.1 c.loop-test.true c.in_ok-place.place c.in_ok-place.was c.in_err-cell.ensures.value }

pub returns-in_err-before : goal.returns-in_err-before
returns-in_err-before g c =
    let l = c.loop in
    record { value = fork_no_size c.args.cells.now c.args.root c.args.first c.args.last l.at l.from l.to l.counter l.invariant.0 c.in_ok-place.place c.in_ok-place.was c.in_ok-cell.cell c.in_ok-cell.ensures.value c.in_err-before.ensures.value c.from_residual-in_err-before.result; exact = c.from_residual-in_err-before.ensures ∙ search_no_size c.args.cells.now c.args.root c.args.first c.args.last l.counter l.at l.from l.to l.invariant.1 c.loop-test.true c.in_ok-place.place c.in_ok-place.was c.in_ok-cell.cell c.in_ok-cell.ensures.value c.in_err-before.ensures.stored }

pub returns-then-from-before : goal.returns-then-from-before
returns-then-from-before g c =
    let l = c.loop in
    record { value = fork-found c.args.cells.now c.args.root c.args.first c.args.last l.at l.from l.to l.counter l.invariant.0 c.in_ok-place.place c.in_ok-place.was c.in_ok-cell.cell c.in_ok-cell.ensures.value c.in_ok-before.before c.in_ok-before.ensures.value c.past.result c.if-from-before.true c.if-to-before.false c.past.ensures.value; exact = search_found c.args.cells.now c.args.root c.args.first c.args.last l.counter l.at l.from l.to l.invariant.1 c.loop-test.true c.in_ok-place.place c.in_ok-place.was c.in_ok-cell.cell c.in_ok-cell.ensures.value c.in_ok-before.before c.in_ok-before.ensures.stored c.if-from-before.true c.if-to-before.false c.past.result c.past.ensures.value }

pub loop-preserved-then-to-before : goal.loop-preserved-then-to-before
loop-preserved-then-to-before g c =
    let l = c.loop in
    (fork_left c.args.cells.now c.args.root c.args.first c.args.last l.at l.from l.to l.counter l.invariant.0 c.in_ok-place.place c.in_ok-place.was c.in_ok-cell.cell c.in_ok-cell.ensures.value c.in_ok-before.before c.in_ok-before.ensures.value c.if-to-before.true, search_left c.args.cells.now c.args.root c.args.first c.args.last l.counter l.at l.from l.to l.invariant.1 c.loop-test.true c.in_ok-place.place c.in_ok-place.was c.in_ok-cell.cell c.in_ok-cell.ensures.value c.in_ok-before.before c.in_ok-before.ensures.stored c.if-to-before.true)

pub loop-preserved : goal.loop-preserved
loop-preserved g c =
    let l = c.loop in
    (fork_right c.args.cells.now c.args.root c.args.first c.args.last l.at l.from l.to l.counter l.invariant.0 c.in_ok-place.place c.in_ok-place.was c.in_ok-cell.cell c.in_ok-cell.ensures.value c.in_ok-before.before c.in_ok-before.ensures.value c.past-from.result c.past-to.result c.if-from-before.false c.if-to-before.false c.past-from.ensures.value c.past-to.ensures.value, search_right c.args.cells.now c.args.root c.args.first c.args.last l.counter l.at l.from l.to l.invariant.1 c.loop-test.true c.in_ok-place.place c.in_ok-place.was c.in_ok-cell.cell c.in_ok-cell.ensures.value c.in_ok-before.before c.in_ok-before.ensures.stored c.past-from.result c.past-to.result c.if-from-before.false c.if-to-before.false c.past-from.ensures.value c.past-to.ensures.value)

pub returns : goal.returns
returns g c =
    let l = c.loop in
    record { value = fork_no_deeper c.args.cells.now c.args.root c.args.first c.args.last l.at l.from l.to l.counter l.invariant.0 (omega arith) None; exact = search_deep c.args.cells.now c.args.root c.args.first c.args.last l.counter l.at l.from l.to l.invariant.1 c.loop-test.false }
