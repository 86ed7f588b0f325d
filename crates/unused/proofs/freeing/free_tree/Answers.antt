use Rattle.std.proofs.Common.{◌≡◌, ℕ, ◌+◌, subst, ◌-◌, arith}
use Rattle.unused.proofs.Emptying.{GoingAll, no_size, no_start, going_start, going_no, going_more, going_done}
use Rattle.unused.proofs.freeing.free_tree.Goals as goal

pub returns-in_err-rows-clause-value : goal.returns-in_err-rows-clause-value
returns-in_err-rows-clause-value g c = no_size c.args.cells.now c.args.unused.first c.args.root c.in_err-rows.ensures.value c.args.cells.now c.from_residual.result

pub returns-in_err-push-clause-value : goal.returns-in_err-push-clause-value
returns-in_err-push-clause-value g c = no_start c.args.cells.now c.args.unused.first c.args.root c.empty-pile.result c.push.new.self c.empty-pile.ensures.value c.in_err-push.ensures.after c.args.cells.now c.from_residual-in_err-push.result

pub loop-init : goal.loop-init
loop-init g c = λ root start. subst (λ (v : ℕ). GoingAll c.args.cells.now c.args.cells.now c.push.new.self c.args.unused.first root c.args.unused.first v) (omega arith) start

pub loop-preserved : goal.loop-preserved
loop-preserved g c = λ root start. going_more c.args.cells.now c.args.unused.first root c.loop.cells c.loop.pile c.loop.last.first (c.in_ok-rows.rows - c.loop.counter) (c.loop.invariant root start) c.free_next.new.cells c.free_next.new.pile c.in_ok-last.last (c.in_ok-rows.rows - (c.loop.counter + 1)) c.in_ok-last.ensures.value (omega arith) (omega arith)

pub returns-in_err-last-clause-value : goal.returns-in_err-last-clause-value
returns-in_err-last-clause-value g c =
    let start = going_start c.args.cells.now c.args.unused.first c.args.root c.empty-pile.result c.push.new.self c.in_ok-rows.rows c.in_ok-rows.ensures.value c.empty-pile.ensures.value c.in_ok-push.ensures.after in
    going_no c.args.cells.now c.args.unused.first c.args.root c.loop.cells c.loop.pile c.loop.last.first (c.in_ok-rows.rows - c.loop.counter) (c.loop.invariant c.args.root start) c.free_next.new.cells c.free_next.new.pile c.in_err-last.ensures.value (omega arith) c.from_residual-in_err-last.result

pub returns-clause-value : goal.returns-clause-value
returns-clause-value g c =
    let start = going_start c.args.cells.now c.args.unused.first c.args.root c.empty-pile.result c.push.new.self c.in_ok-rows.rows c.in_ok-rows.ensures.value c.empty-pile.ensures.value c.in_ok-push.ensures.after in
    let none : (c.in_ok-rows.rows - c.loop.counter) ≡ 0 = omega arith in
    going_done c.args.cells.now c.args.unused.first c.args.root c.loop.cells c.loop.pile c.loop.last.first (c.in_ok-rows.rows - c.loop.counter) (c.loop.invariant c.args.root start) none
