use Rattle.std.proofs.Common.{◌≡◌, true}
use Rattle.monoid.specs.Asking.{exactly, AskedFor}
use Rattle.pairs.specs.Moved.{moved}
use Rattle.before_after.specs.Action.{action}
use Rattle.before_after.proofs.action.acted_pairs.Given as goal

abbrev pub invariant-loop-index : goal.invariant-loop-index
invariant-loop-index g l =
    let r = g.R.Recogniser in
    let s = l.initial.recogniser in
    record {
      asked : AskedFor r.meaning r.orderly r.tally (exactly l.index) s l.recogniser;
      value : r.orderly s → (r.meaning s).sound l.factor ≡ true → l.taken ≡ moved l.member l.index (action l.member (r.meaning s) (g.R.SmallRecogniser.small s) l.factor) l.pairs;
    }
