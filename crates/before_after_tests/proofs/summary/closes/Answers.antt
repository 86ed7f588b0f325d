use Rattle.std.proofs.Common.{Bool, true, sym, ◌∙◌, subst}
use Rattle.monoid.specs.Words.{Recognises}
use Rattle.before_after.specs.BeforeAfter.{before_and_after}
use Rattle.before_after.specs.Marked.{Marked}
use Rattle.before_after_tests.specs.Seen.{seen, by_truth}
use Rattle.before_after_tests.specs.Summary.{summaries, Closed}
use Rattle.before_after_tests.proofs.summary.closes.Goals as goal

pub returns : goal.returns
returns c =
    let made = c.new-recogniser.result in
    let m = before_and_after (seen made.before.wanted) by_truth (seen made.after.wanted) by_truth made.marks in
    let first : Recognises m 0 (Marked (seen true) (seen c.new-2.result.wanted) summaries) = subst (λ (b : Bool). Recognises m 0 (Marked (seen b) (seen c.new-2.result.wanted) summaries)) c.new.ensures.value (c.new-recogniser.ensures.language tt tt) in
    let closed : Recognises m 0 Closed = subst (λ (b : Bool). Recognises m 0 (Marked (seen true) (seen b) summaries)) c.new-2.ensures.value first in
    let verdicts = c.word_lamps.ensures.verdicts (tt, tt) in
    let w = c.args.word.now in
    record {
      only = λ e. closed.only w (verdicts.only 0 (sym c.lights.ensures.value ∙ e));
      every = λ it. c.lights.ensures.value ∙ verdicts.every 0 (closed.every w it);
    }
