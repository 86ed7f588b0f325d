use borrow.Rule.Slice.PartMut.{same_len_mid}
use Rattle.std.proofs.Common.{◌-◌, refl, ap, ◌∙◌, arith}
use Rattle.plain.specs.Lawful.{lawful}
use Rattle.records.specs.Entries.{entries}
use Rattle.records.proofs.Altering.{removed_there, removed_nowhere}
use Rattle.records.proofs.records.Records.remove.Goals as goal

pub invariant_of-self : goal.invariant_of-self
invariant_of-self c =
    let b = c.args.self.now in
    let f = b.few in
    let out = removed_there b c.args.tag c.args.tag refl c.place.result c.place.ensures.value c.in-Some.at c.rotate_left.new.self c.in-Some.is c.rotate_left.ensures.after in
    record {
      eight = same_len_mid c.in-Some.at (8 - c.in-Some.at) b.records c.rotate_left.new.self c.rotate_left.ensures.len ∙ b.eight;
      few = omega arith;
      most = b.most;
      ok = ap (λ rs. lawful b.capacity (entries rs)) out ∙ c.requires.ok;
    }

pub returns-in-Some-clause-after : goal.returns-in-Some-clause-after
returns-in-Some-clause-after c =
    removed_there c.args.self.now c.args.tag c.args.tag refl c.place.result c.place.ensures.value c.in-Some.at c.rotate_left.new.self c.in-Some.is c.rotate_left.ensures.after

pub returns-in_default-clause-after : goal.returns-in_default-clause-after
returns-in_default-clause-after c =
    removed_nowhere c.args.self.now c.args.tag c.args.tag refl c.place.result c.place.ensures.value c.in_default.is
