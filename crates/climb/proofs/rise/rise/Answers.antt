use Rattle.std.proofs.Common.{◌-◌, ◌*◌, length, Some, None, refl, ◌∙◌, arith}
use Rattle.std.proofs.lemmas.Iterator.Adapters.{YieldsList-from_rev_slice}
use Rattle.std.proofs.lemmas.Iterator.Consumers.{YieldsList-turn, YieldsList-end}
use Rattle.std.proofs.lemmas.List.{length_push}
use Rattle.cells.specs.Asking.{Due, cost}
use Rattle.cells.proofs.Asking.{due_kept, asks_none, costs_more, costs_then}
use Rattle.climb.proofs.Lifting.{levels_as}
use Rattle.climb.proofs.Rising.{climb_start, climb_step, climb_none, climb_end}
use Rattle.climb.proofs.Steps.{step_turn, step_end}
use Rattle.climb.proofs.rise.rise.Goals as goal

pub loop-step-init : goal.loop-step-init
loop-step-init g c =
    let before = c.args.recogniser.now in
    let way = c.args.way.now in
    record {
      asked = asks_none (cost c.args.mode 0) before;
      climbing = λ up s al ar ss ea dis tall big. climb_start (g.R.Recogniser.meaning before) (Due c.args.mode (g.R.Recogniser.orderly before)) c.args.cells.now up s way.steps c.args.start (way.depth - 0) (al.deep ∙ omega arith) al.stacked ar ss ea;
    }

pub returns-in_err-top : goal.returns-in_err-top
returns-in_err-top g c =
    let before = c.args.recogniser.now in
    let between = c.loop-step.recogniser in
    let meaning = g.R.Recogniser.meaning in
    let orderly = g.R.Recogniser.orderly in
    let mode = c.args.mode in
    let way = c.args.way.now in
    let x = c.args.cells.now in
    let cells = c.loop-step.cells in
    let after = c.level.new.cells in
    let n = length c.loop-step.yielded in
    let d = way.depth - n - 1 in
    let one = c.in-Some.step.now in
    let turn = step_turn way c.in_ok-taken.field-0.now c.in_ok-taken.ensures.value n one (YieldsList-turn (YieldsList-from_rev_slice {s = c.into_iter-step-iterator.result} c.in_ok-taken.field-0.now cc) c.loop-step.yielded _ c.loop-step.yielded_by _ _ c.in-Some.step c.in-Some.is c.next.ensures.steps) in
    let so_far = c.loop-step.invariant.asked in
    let level = c.in_err-top.ensures in
    let room = turn.0 in
    let few = c.in_ok-taken.ensures.value.room in
    let at = turn.1 d (omega arith) in
    record {
      value = λ up s al ar ss ea dis tall big deep. absurd (climb_none (meaning before) (Due mode (orderly before)) x up s way.steps dis tall big cells after c.loop-step.link None d one at (levels_as (meaning before) (meaning between) (Due mode (orderly before)) (Due mode (orderly between)) so_far.same (due_kept mode so_far.order) cells after _ _ c.loop-step.link None level.value) (way.depth - n) (omega arith) (c.loop-step.invariant.climbing up s al ar ss ea dis tall big) refl);
      asks = costs_then mode (6 * n) 6 (6 * way.depth) before between c.level.new.recogniser (omega arith) so_far level.asks;
      most = costs_then mode (6 * n) 6 144 before between c.level.new.recogniser (omega arith) so_far level.asks;
      deep = λ h. absurd (omega arith);
    }

pub loop-step-preserved : goal.loop-step-preserved
loop-step-preserved g c =
    let before = c.args.recogniser.now in
    let between = c.loop-step.recogniser in
    let meaning = g.R.Recogniser.meaning in
    let orderly = g.R.Recogniser.orderly in
    let mode = c.args.mode in
    let way = c.args.way.now in
    let x = c.args.cells.now in
    let cells = c.loop-step.cells in
    let after = c.level.new.cells in
    let n = length c.loop-step.yielded in
    let more = length_push c.loop-step.yielded c.in-Some.step in
    let one = c.in-Some.step.now in
    let turn = step_turn way c.in_ok-taken.field-0.now c.in_ok-taken.ensures.value n one (YieldsList-turn (YieldsList-from_rev_slice {s = c.into_iter-step-iterator.result} c.in_ok-taken.field-0.now cc) c.loop-step.yielded _ c.loop-step.yielded_by _ _ c.in-Some.step c.in-Some.is c.next.ensures.steps) in
    let top = Some c.in_ok-top.top in
    let so_far = c.loop-step.invariant.asked in
    let level = c.in_ok-top.ensures in
    let room = turn.0 in
    record {
      asked = costs_then mode (6 * n) 6 _ before between c.level.new.recogniser (omega arith) so_far level.asks;
      climbing = λ up s al ar ss ea dis tall big. climb_step (meaning before) (Due mode (orderly before)) x up s way.steps dis tall big cells after c.loop-step.link top _ one (turn.1 _ (omega arith)) (levels_as (meaning before) (meaning between) (Due mode (orderly before)) (Due mode (orderly between)) so_far.same (due_kept mode so_far.order) cells after _ _ c.loop-step.link top level.value) (way.depth - n) (omega arith) (c.loop-step.invariant.climbing up s al ar ss ea dis tall big);
    }

pub returns : goal.returns
returns g c =
    let before = c.args.recogniser.now in
    let mode = c.args.mode in
    let way = c.args.way.now in
    let n = length c.loop-step.yielded in
    let few = c.in_ok-taken.ensures.value.room in
    let done = step_end way c.in_ok-taken.field-0.now c.in_ok-taken.ensures.value n (YieldsList-end (YieldsList-from_rev_slice {s = c.into_iter-step-iterator.result} c.in_ok-taken.field-0.now cc) c.loop-step.yielded _ c.loop-step.yielded_by _ _ c.in-None.is c.next.ensures.steps).1 in
    record {
      value = λ up s al ar ss ea dis tall big deep. climb_end (g.R.Recogniser.meaning before) (Due mode (g.R.Recogniser.orderly before)) c.args.cells.now up s way.steps c.loop-step.cells c.loop-step.link (way.depth - n) (omega arith) (c.loop-step.invariant.climbing up s al ar ss ea dis tall big);
      asks = costs_more mode (6 * n) (6 * way.depth) before c.loop-step.recogniser (omega arith) c.loop-step.invariant.asked;
      most = costs_more mode (6 * n) 144 before c.loop-step.recogniser (omega arith) c.loop-step.invariant.asked;
      deep = λ h. absurd (omega arith);
    }
