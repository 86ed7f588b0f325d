use Rattle.std.proofs.Common.{None, sym, ◌∙◌}
use Rattle.unused.proofs.Emptying.{next_none, next_no_cell, next_not_falling, next_no_right, next_no_left}
use Rattle.unused.proofs.freeing.free_next.Goals as goal

pub returns-in_err-place-clause-value : goal.returns-in_err-place-clause-value
returns-in_err-place-clause-value g c =
    let x = c.args.cells.now in
    let p = c.pop.new.self in
    next_none x x c.args.pile.now p p p c.args.unused.first c.from_residual.result c.in_err-place.ensures.after

pub returns-in_err-cell-clause-value : goal.returns-in_err-cell-clause-value
returns-in_err-cell-clause-value g c =
    let x = c.args.cells.now in
    let p = c.pop.new.self in
    next_no_cell x x c.args.pile.now p p p c.args.unused.first c.in_ok-place.place c.in_ok-place.ensures.after c.from_residual-in_err-cell.result c.in_err-cell.ensures.value

pub returns-then-not-falls-clause-value : goal.returns-then-not-falls-clause-value
returns-then-not-falls-clause-value g c =
    let x = c.args.cells.now in
    let p = c.pop.new.self in
    next_not_falling x x c.args.pile.now p p p c.args.unused.first c.in_ok-place.place c.in_ok-place.ensures.after c.in_ok-cell.cell c.in_ok-cell.ensures.value None (sym c.falls.ensures.value ∙ c.if-not-falls.true)

pub returns-in_err-push-clause-value : goal.returns-in_err-push-clause-value
returns-in_err-push-clause-value g c =
    let x = c.args.cells.now in
    let p = c.push.new.self in
    next_no_right x x c.args.pile.now c.pop.new.self p p c.args.unused.first c.in_ok-place.place c.in_ok-place.ensures.after c.in_ok-cell.cell c.in_ok-cell.ensures.value c.from_residual-in_err-push.result c.in_err-push.ensures.after

pub returns-in_err-push-2-clause-value : goal.returns-in_err-push-2-clause-value
returns-in_err-push-2-clause-value g c =
    let x = c.args.cells.now in
    let p = c.push-2.new.self in
    next_no_left x x c.args.pile.now c.pop.new.self c.push.new.self p c.args.unused.first c.in_ok-place.place c.in_ok-place.ensures.after c.in_ok-cell.cell c.in_ok-cell.ensures.value c.in_ok-push.ensures.after c.from_residual-in_err-push-2.result c.in_err-push-2.ensures.after
