use Rattle.whole.proofs.Doubling.{next_no_cell, next_no_sides, next_no_taken, next_no_push, next_done}
use Rattle.whole.proofs.copying.copy_next.Goals as goal

pub returns-in_err-cell-clause-value : goal.returns-in_err-cell-clause-value
returns-in_err-cell-clause-value g c =
    let x = c.args.cells.now in
    let p = c.args.pile.now in
    next_no_cell x x p p p c.args.unused.first c.args.root c.args.rank c.from_residual.result c.in_err-cell.ensures.value

pub returns-in_err-sides-clause-value : goal.returns-in_err-sides-clause-value
returns-in_err-sides-clause-value g c =
    let x = c.args.cells.now in
    let p = c.take_sides.new.pile in
    next_no_sides x x c.args.pile.now p p c.args.unused.first c.args.root c.args.rank c.in_ok-cell.cell c.in_ok-cell.ensures.value c.from_residual-in_err-sides.result c.in_err-sides.ensures.value

pub returns-in_err-taken-clause-value : goal.returns-in_err-taken-clause-value
returns-in_err-taken-clause-value g c =
    let p = c.take_sides.new.pile in
    next_no_taken c.args.cells.now c.write_copy.new.cells c.args.pile.now p p c.args.unused.first c.args.root c.args.rank c.in_ok-cell.cell c.in_ok-cell.ensures.value c.in_ok-sides.sides c.in_ok-sides.ensures.value c.from_residual-in_err-taken.result c.in_err-taken.ensures.value

pub returns-in_err-push-clause-value : goal.returns-in_err-push-clause-value
returns-in_err-push-clause-value g c = next_no_push c.args.cells.now c.write_copy.new.cells c.args.pile.now c.take_sides.new.pile c.push.new.self c.args.unused.first c.args.root c.args.rank c.in_ok-cell.cell c.in_ok-cell.ensures.value c.in_ok-sides.sides c.in_ok-sides.ensures.value c.in_ok-taken.taken c.in_ok-taken.ensures.value c.from_residual-in_err-push.result c.in_err-push.ensures.after

pub returns-clause-value : goal.returns-clause-value
returns-clause-value g c = next_done c.args.cells.now c.write_copy.new.cells c.args.pile.now c.take_sides.new.pile c.push.new.self c.args.unused.first c.args.root c.args.rank c.in_ok-cell.cell c.in_ok-cell.ensures.value c.in_ok-sides.sides c.in_ok-sides.ensures.value c.in_ok-taken.taken c.in_ok-taken.ensures.value c.in_ok-push.ensures.after
