use Rattle.std.proofs.Common.{refl, arith}
use Rattle.whole.proofs.Duplicates.{going_start, going_no, going_more, no_top, going_done}
use Rattle.whole.proofs.copying.copy_rows.Goals as goal

pub loop-done-init : goal.loop-done-init
loop-done-init g c = going_start c.args.cells.now c.args.unused.first c.args.root c.args.rows c.empty-pile.result c.empty-pile.ensures.value

pub returns-in_err-rest : goal.returns-in_err-rest
returns-in_err-rest g c =
    let l = c.loop-done in
    record { value = going_no c.args.cells.now c.args.unused.first c.args.root c.args.rows l.cells l.pile l.rest.first l.done l.invariant c.copy_next.new.cells c.copy_next.new.pile (omega arith) c.in_err-rest.ensures.value c.from_residual.result }

pub loop-done-preserved : goal.loop-done-preserved
loop-done-preserved g c =
    let l = c.loop-done in
    going_more c.args.cells.now c.args.unused.first c.args.root c.args.rows l.cells l.pile l.rest.first l.done l.invariant c.copy_next.new.cells c.copy_next.new.pile (omega arith) c.in_ok-rest.rest c.in_ok-rest.ensures.value

pub returns-in_err-top : goal.returns-in_err-top
returns-in_err-top g c =
    let l = c.loop-done in
    record { value = no_top c.args.cells.now c.args.unused.first c.args.root c.args.rows l.cells l.pile l.rest.first l.done l.invariant (omega arith) c.pop_like.new.pile c.in_err-top.ensures.value c.from_residual-in_err-top.result }

pub returns : goal.returns
returns g c =
    let l = c.loop-done in
    record { value = going_done c.args.cells.now c.args.unused.first c.args.root c.args.rows l.cells l.pile l.rest.first l.done l.invariant (omega arith) c.pop_like.new.pile c.in_ok-top.top l.rest refl c.in_ok-top.ensures.value }
