use Rattle.std.proofs.Common.{[], ◌∷◌, decimal, ◌∙◌, arith}
use Rattle.std.proofs.lemmas.List.{length_push}
use Rattle.listing.proofs.Writing.{then_write}
use Rattle.listing.proofs.writer.write_part.Goals as goal

pub returns : goal.returns
returns c =
    let digits = decimal c.args.number in
    let end = c.write_number-end in
    record {
      value = omega (arith, length_push digits 44, end.ensures.value, c.write_mark.ensures.value);
      after = c.write_mark.ensures.after ∙ then_write c.args.out.now end.new.out c.args.at end.result digits (44 ∷ []) (omega arith) end.ensures.after end.ensures.value;
      bound = omega (arith, end.ensures.bound, c.write_mark.ensures.value);
      fits = omega (arith, c.ranges.number.fits);
    }
