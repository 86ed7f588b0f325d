use Rattle.std.proofs.Common.{ap, ◌∙◌, arith}
use Rattle.pairs.specs.Pairs.{holds}
use Rattle.pairs.proofs.Pairs.{joined_is, joined-holds}
use Rattle.pairs.proofs.pair_set.PairSet.join.Goals as goal

pub returns : goal.returns
returns c =
    let s = c.args.self in
    let t = c.args.other in
    let is = joined_is s t (omega arith) (omega arith) in
    record { value = is; members = λ i j. ap (λ u. holds u i j) is ∙ joined-holds s t i j }
