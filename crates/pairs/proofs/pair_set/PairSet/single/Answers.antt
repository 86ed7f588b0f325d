use Rattle.std.proofs.Common.{◌∙◌, ap₂}
use Rattle.pairs.specs.Pairs.{only}
use Rattle.pairs.proofs.Pairs.{only_is, only_outside, only_holds}
use Rattle.pairs.proofs.pair_set.PairSet.single.Goals as goal

pub returns-in_default-clause-value : goal.returns-in_default-clause-value
returns-in_default-clause-value c = c.empty.ensures.value ∙ only_outside c.args.first c.args.second c.in_default.ensures.value

pub returns : goal.returns
returns c =
    let i = c.in-Some.first in
    let j = c.in-Some.second in
    let given = c.in-Some.ensures.value in
    let is = only_is i.value j.value c.place.result c.place.ensures.value j.below ∙ ap₂ only given.0 given.1 in
    record { value = is; members = only_holds c.args.first c.args.second is }
