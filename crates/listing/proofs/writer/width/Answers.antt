use Rattle.std.proofs.Common.{◌^◌, ◌<◌, div-le_self, arith}
use Rattle.listing.proofs.Decimals.{most_digits, one_more, one_digit}
use Rattle.listing.proofs.writer.width.Goals as goal

pub overflow_add-count : goal.overflow_add-count
overflow_add-count c = omega (arith, most_digits c.args.number c.ranges.number.fits, c.loop-rest.invariant.0)

pub loop-rest-preserved : goal.loop-rest-preserved
loop-rest-preserved c =
    let fits : c.loop-rest.rest < 2 ^ 64 = omega (arith, c.ranges.number.fits) in
    (omega (arith, one_more c.loop-rest.rest c.loop-rest-test.true fits), omega (arith, div-le_self c.loop-rest.rest 10))

pub returns : goal.returns
returns c = record { value = omega (arith, one_digit c.loop-rest.rest c.loop-rest-test.false) }
