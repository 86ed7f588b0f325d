use Rattle.std.proofs.Common.{◌/◌, ◌^◌, eqb, ap, ◌∙◌}
use lib.Bits.{and_mask}
use Rattle.pairs.specs.Bits.{bit}
use Rattle.pairs.proofs.lines.is_set.Goals as goal

pub returns : goal.returns
unfolding bit
returns c = record { value = ap (λ n. eqb n 1) (and_mask (c.args.bits / 2 ^ c.place.result) 1) ∙ ap (bit c.args.bits) c.place.ensures.value }
