use Rattle.std.proofs.Common.{◌≡◌, length}
use Rattle.monoid.specs.Asking.{exactly, AskedFor}
use Rattle.bench.proofs.factors.word_images.Given as goal

abbrev pub invariant-loop-place : goal.invariant-loop-place
invariant-loop-place g l =
    let r = g.R.Recogniser in
    record {
      kept : length l.images ≡ 16;
      asked : AskedFor r.meaning r.orderly r.tally (exactly l.place) l.initial.recogniser l.recogniser;
    }
