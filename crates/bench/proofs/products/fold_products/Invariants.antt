use Rattle.std.proofs.Common.{◌≡◌, length}
use Rattle.monoid.specs.Asking.{exactly, AskedFor}
use Rattle.bench.proofs.products.fold_products.Given as goal

abbrev pub invariant-loop-turn : goal.invariant-loop-turn
invariant-loop-turn g l =
    let r = g.R.Recogniser in
    record {
      kept : length l.products ≡ 16;
      asked : AskedFor r.meaning r.orderly r.tally (exactly l.turn) l.initial.recogniser l.recogniser;
    }
