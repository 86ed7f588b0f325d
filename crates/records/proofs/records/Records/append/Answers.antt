use Rattle.std.proofs.Common.{refl, ap, ◌∙◌, arith, length-set}
use Rattle.plain.specs.Lawful.{lawful}
use Rattle.records.specs.Entries.{entries}
use Rattle.records.proofs.Altering.{standing_appended}
use Rattle.records.proofs.records.Records.append.Goals as goal

pub invariant_of-self : goal.invariant_of-self
invariant_of-self c =
    let b = c.args.self.now in
    let room = c.requires.room in
    record {
      eight = length-set b.records b.live c.args.fresh ∙ b.eight;
      few = omega arith;
      most = b.most;
      ok = ap (λ rs. lawful b.capacity (entries rs)) (standing_appended b c.args.fresh room) ∙ c.requires.ok;
    }

pub returns : goal.returns
returns c = record { after = standing_appended c.args.self.now c.args.fresh c.requires.room; capacity = refl }
