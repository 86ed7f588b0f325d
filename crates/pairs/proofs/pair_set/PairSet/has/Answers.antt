use Rattle.std.proofs.Common.{sym, ◌∙◌, ap₂}
use Rattle.pairs.specs.Pairs.{holds}
use Rattle.pairs.proofs.Pairs.{holds-bit, outside}
use Rattle.pairs.proofs.pair_set.PairSet.has.Goals as goal

pub returns-in_default : goal.returns-in_default
returns-in_default c = record { value = sym (outside c.args.self c.args.first c.args.second c.in_default.ensures.value) }

pub returns : goal.returns
returns c =
    let s = c.args.self in
    let i = c.in-Some.first in
    let j = c.in-Some.second in
    let is = c.in-Some.ensures.value in
    record { value = c.is_set.ensures.value ∙ sym (holds-bit s i.value j.value i.below j.below) ∙ ap₂ (holds s) is.0 is.1 }
