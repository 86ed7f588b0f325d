use Rattle.std.proofs.Common.{ℕ, ◌+◌, ◌%◌, ◌^◌, ◌<◌, refl, ap, ◌∙◌, arith}
use Rattle.monoid.proofs.Words.{tally_more}
use Rattle.pairs.proofs.Moved.{moved_start}
use Rattle.before_after.specs.Action.{action}
use Rattle.before_after.specs.Actions.{action_told, moved_step}
use Rattle.before_after.proofs.action.acted_pairs.Goals as goal

pub loop-index-init : goal.loop-index-init
loop-index-init g c =
    let s = c.args.recogniser.now in
    let f : ℕ → ℕ = action c.args.member (g.R.Recogniser.meaning s) (g.R.SmallRecogniser.small s) c.args.factor in
    let bounded = g.met.R.Recogniser.bounded s in
    record {
      asked = record { same = refl; order = λ o. o; counted = omega arith };
      value = λ o sound. c.empty-taken.ensures.value ∙ moved_start c.args.member 0 f c.args.pairs;
    }

pub loop-index-preserved : goal.loop-index-preserved
loop-index-preserved g c =
    let r = g.R.Recogniser in
    let s = c.args.recogniser.now in
    let n = g.R.SmallRecogniser.small s in
    let member = c.args.member in
    let factor = c.args.factor in
    let i = c.loop-index.index in
    let before = c.loop-index.invariant in
    let here = c.acted_index-to.ensures in
    let below : i < n.order = omega arith in
    record {
      asked = record {
        same = here.asked.same ∙ before.asked.same;
        order = λ o. here.asked.order (before.asked.order o);
        counted = here.asked.counted ∙ ap (λ t. (t + 1) % 2 ^ 64) before.asked.counted ∙ tally_more (r.tally s) i;
      };
      value = λ o sound.
          moved_step member (action member (r.meaning s) n factor) i c.acted_index-to.result c.args.pairs c.loop-index.taken c.line_moved.result c.join-taken.result
          (before.value o sound)
          (action_told before.asked.same (g.met.R.SmallRecogniser.steady c.loop-index.recogniser s before.asked.same) member factor i c.acted_index-to.result (here.value (before.asked.order o)) sound below)
          c.line_moved.ensures.value
          c.join-taken.ensures.value;
    }
