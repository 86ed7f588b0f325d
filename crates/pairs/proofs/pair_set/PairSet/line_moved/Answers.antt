use Rattle.std.proofs.Common.{◌∙◌, ap₂, arith}
use Rattle.pairs.specs.Moved.{line_moved}
use Rattle.pairs.proofs.Pairs.{set_of}
use Rattle.pairs.proofs.Moved.{line_holds, line_is, line_outside}
use Rattle.pairs.proofs.pair_set.PairSet.line_moved.Goals as goal

pub returns-in_default : goal.returns-in_default
returns-in_default c =
    let is = c.empty.ensures.value ∙ line_outside c.args.member c.args.self c.args.from c.args.to c.in_default.ensures.value in
    record { value = is; members = line_holds c.args.member c.args.self c.args.from c.args.to c.empty.result is }

pub returns : goal.returns
returns c =
    let s = c.args.self in
    let from = c.in-Some.from in
    let to = c.in-Some.to in
    let given = c.in-Some.ensures.value in
    let line = c.line_as.result in
    let is = line_is c.args.member s from.value to.value line from.below (omega arith) c.line_as.ensures.value ∙ ap₂ (λ x y. line_moved c.args.member x y s) given.0 given.1 in
    record { value = is; members = line_holds c.args.member s c.args.from c.args.to (set_of line) is }
