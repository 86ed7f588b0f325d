-- The worked examples, each by computing it.
use Rattle.std.proofs.Common.{refl}
use Rattle.pairs.specs.Bits.{bit, packed}
use Rattle.pairs.specs.Pairs.{holds, gathered}
use Rattle.pairs.specs.Below.{some_below}
use Rattle.panels.specs.Worked.{Worked}

pub worked : Worked
unfolding bit packed holds gathered some_below
worked = record {
  one_empty = refl;
  one_heading_item_collection = refl;
  one_heading_item = refl;
  one_two_notes = refl;
  one_provisional = refl;
  one_ten_blanks = refl;
  two_empty = refl;
  two_collection = refl;
  two_collection_summary = refl;
}
