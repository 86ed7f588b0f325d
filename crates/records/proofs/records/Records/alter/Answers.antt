use Rattle.std.proofs.Common.{ap, ◌∙◌, arith, length-set}
use Rattle.plain.specs.Calls.{tag_of}
use Rattle.plain.specs.Lawful.{lawful}
use Rattle.records.specs.Entries.{entries}
use Rattle.records.proofs.Within.{rows-within}
use Rattle.records.proofs.Altering.{found_there, altered_there, altered_nowhere}
use Rattle.records.proofs.records.Records.alter.Goals as goal

pub take-requires : goal.take-requires
take-requires c =
    let b = c.args.self.now in
    let most = b.most in
    let there = found_there b c.tag.result (tag_of c.args.call) c.tag.ensures.value c.place.result c.place.ensures.value c.in-Some.at c.in-Some.is in
    record { few = omega (arith, rows-within b c.in-Some.at there.0) }

pub invariant_of-self : goal.invariant_of-self
invariant_of-self c =
    let b = c.args.self.now in
    let changed = altered_there b c.tag.result (tag_of c.args.call) c.tag.ensures.value c.place.result c.place.ensures.value c.in-Some.at c.args.call c.args.root c.take.new.self c.in-Some.is c.take.ensures.after in
    record {
      eight = length-set b.records c.in-Some.at c.take.new.self ∙ b.eight;
      few = b.few;
      most = b.most;
      ok = ap (λ rs. lawful b.capacity (entries rs)) changed ∙ c.requires.ok;
    }

pub returns-in-Some-clause-after : goal.returns-in-Some-clause-after
returns-in-Some-clause-after c =
    altered_there c.args.self.now c.tag.result (tag_of c.args.call) c.tag.ensures.value c.place.result c.place.ensures.value c.in-Some.at c.args.call c.args.root c.take.new.self c.in-Some.is c.take.ensures.after

pub returns-in_default-clause-after : goal.returns-in_default-clause-after
returns-in_default-clause-after c =
    altered_nowhere c.args.self.now c.tag.result (tag_of c.args.call) c.tag.ensures.value c.place.result c.place.ensures.value c.args.call c.args.root c.in_default.is
