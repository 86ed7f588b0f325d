use Rattle.std.proofs.Common.{refl, ◌∙◌, arith}
use Rattle.listing.proofs.Writing.{set_is}
use Rattle.listing.proofs.writer.write_mark.Goals as goal

pub returns : goal.returns
returns c = record { value = refl; after = c.put.ensures.after ∙ set_is c.args.out.now c.args.at c.args.mark (omega arith) }
