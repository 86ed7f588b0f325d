use Rattle.std.proofs.Common.{◌≡◌, ◌+◌, ◌*◌, false, ap, ◌∙◌, arith}
use Rattle.pairs.specs.Pairs.{holds, none}
use Rattle.pairs.proofs.Bits.{bit-none}
use Rattle.pairs.proofs.Pairs.{set_of, gathered_is, none-holds}
use Rattle.pairs.proofs.pair_set.PairSet.empty.Goals as goal

pub returns : goal.returns
returns c =
    let is : set_of 0 ≡ none = gathered_is (λ i j. false) 0 (omega arith) (λ i j hi hj. bit-none (8 * i + j)) in
    record { value = is; members = λ i j. ap (λ s. holds s i j) is ∙ none-holds i j }
