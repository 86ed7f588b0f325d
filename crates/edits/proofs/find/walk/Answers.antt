use Rattle.std.proofs.Common.{◌<◌, Some, None, refl, ◌∙◌, arith}
use Rattle.edits.specs.Walks.{spare}
use Rattle.edits.proofs.Walking.{going_at, no_fork, no_deeper, reached_gap, reached_row, went_left, went_right, few_spare}
use Rattle.edits.proofs.Pushing.{push_is, push_deeper}
use Rattle.edits.proofs.Descending.{walked_gap, walked_no_fork, walked_row, walking_left, walking_right, walked_deep}
use Rattle.edits.proofs.find.walk.Goals.{in-Left, in-Right}
use Rattle.edits.proofs.find.walk.Goals as goal

pub returns-in_default-clause-value : goal.returns-in_default-clause-value
returns-in_default-clause-value g c =
    let cells = c.args.cells.now in
    let aim = c.args.aim in
    λ t s e h w. (_, refl, reached_gap cells t c.args.index c.loop.rest c.loop.way aim (going_at cells t c.args.index (spare aim) c.loop.at None c.loop.rest c.loop.way c.in_default.is (c.loop.invariant.going t s e h w)))

pub returns-in_err-fork-clause-value : goal.returns-in_err-fork-clause-value
returns-in_err-fork-clause-value g c =
    let cells = c.args.cells.now in
    let aim = c.args.aim in
    let place = c.in-Some.place in
    λ t s e h w. absurd (no_fork cells t c.args.index (spare aim) c.loop.rest place c.loop.way (going_at cells t c.args.index (spare aim) c.loop.at (Some place) c.loop.rest c.loop.way c.in-Some.is (c.loop.invariant.going t s e h w)) c.in_err-fork.ensures.value)

pub returns-in_default-turn-clause-value : goal.returns-in_default-turn-clause-value
returns-in_default-turn-clause-value g c =
    let cells = c.args.cells.now in
    let aim = c.args.aim in
    let place = c.in-Some.place in
    λ t s e h w. (_, refl, reached_row cells t c.args.index c.loop.rest c.loop.way aim place c.in_ok-fork.fork (going_at cells t c.args.index (spare aim) c.loop.at (Some place) c.loop.rest c.loop.way c.in-Some.is (c.loop.invariant.going t s e h w)) c.in_ok-fork.ensures.value c.in_default-turn.ensures.value)

pub loop-preserved : goal.loop-preserved
loop-preserved g c =
    let cells = c.args.cells.now in
    let aim = c.args.aim in
    let place = c.in-Some.place in
    let fork = c.in_ok-fork.fork in
    let way = c.loop.way in
    let side = c.in-Some-turn.side in
    let next = c.push.new.self in
    let deep = c.loop.invariant.deep in
    let room : way.depth < 24 = omega arith in
    record {
      deep = push_deeper way next place side room c.push.ensures.after ∙ (let d = deep in omega arith);
      going = λ t s e h w.
          let going = going_at cells t c.args.index (spare aim) c.loop.at (Some place) c.loop.rest way c.in-Some.is (c.loop.invariant.going t s e h w) in
          elim c.match-side.branch [
            | in-Left b ↦ went_left cells t c.args.index c.loop.rest place way aim fork going c.in_ok-fork.ensures.value next side c.in-Some-turn.ensures.value c.push.ensures.within room c.push.ensures.after c.match-side.at c.match-side.rest b.in-Left.is b.at-is b.rest-is
            | in-Right b ↦ went_right cells t c.args.index c.loop.rest place way aim fork going c.in_ok-fork.ensures.value next side c.in-Some-turn.ensures.value c.push.ensures.within room c.push.ensures.after c.match-side.at c.match-side.rest b.in-Right.is b.at-is b.rest-is
          ];
      walking =
          elim c.match-side.branch [
            | in-Left b ↦ walking_left aim cells c.args.root c.args.index c.loop.counter way c.loop.at c.loop.rest c.loop.invariant.walking c.loop-test.true place c.in-Some.is fork c.in_ok-fork.ensures.exact side c.in-Some-turn.ensures.exact next (push_is way next place side room c.push.ensures.after) c.match-side.at c.match-side.rest b.in-Left.is b.at-is b.rest-is
            | in-Right b ↦ walking_right aim cells c.args.root c.args.index c.loop.counter way c.loop.at c.loop.rest c.loop.invariant.walking c.loop-test.true place c.in-Some.is fork c.in_ok-fork.ensures.exact side c.in-Some-turn.ensures.exact next (push_is way next place side room c.push.ensures.after) c.match-side.at c.match-side.rest b.in-Right.is b.at-is b.rest-is
          ];
    }

pub returns-clause-value : goal.returns-clause-value
returns-clause-value g c =
    let aim = c.args.aim in
    let deep = c.loop.invariant.deep in
    λ t s e h w. absurd (no_deeper c.args.cells.now t c.args.index c.loop.rest (spare aim) c.loop.at c.loop.way (few_spare aim) (c.loop.invariant.going t s e h w) (omega arith))

pub returns-in_default-clause-exact : goal.returns-in_default-clause-exact
returns-in_default-clause-exact g c = walked_gap c.args.aim c.args.cells.now c.args.root c.args.index c.loop.counter c.loop.way c.loop.at c.loop.rest c.loop.invariant.walking c.loop-test.true c.in_default.is

pub returns-in_err-fork-clause-exact : goal.returns-in_err-fork-clause-exact
returns-in_err-fork-clause-exact g c = c.from_residual.ensures ∙ walked_no_fork c.args.aim c.args.cells.now c.args.root c.args.index c.loop.counter c.loop.way c.loop.at c.loop.rest c.loop.invariant.walking c.loop-test.true c.in-Some.place c.in-Some.is c.in_err-fork.ensures.exact

pub returns-in_default-turn-clause-exact : goal.returns-in_default-turn-clause-exact
returns-in_default-turn-clause-exact g c = walked_row c.args.aim c.args.cells.now c.args.root c.args.index c.loop.counter c.loop.way c.loop.at c.loop.rest c.loop.invariant.walking c.loop-test.true c.in-Some.place c.in-Some.is c.in_ok-fork.fork c.in_ok-fork.ensures.exact c.in_default-turn.ensures.exact

pub returns-clause-exact : goal.returns-clause-exact
returns-clause-exact g c = walked_deep c.args.aim c.args.cells.now c.args.root c.args.index c.loop.counter c.loop.way c.loop.at c.loop.rest c.loop.invariant.walking c.loop-test.false
