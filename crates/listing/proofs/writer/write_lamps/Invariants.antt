use Rattle.std.proofs.Common.{◌≡◌, map}
use lib.Seq.{paste}
use Rattle.listing.specs.Answers.{lamp_digit, lamps_shown}
use Rattle.listing.proofs.writer.write_lamps.Given as goal

abbrev pub invariant-loop-lamp : goal.invariant-loop-lamp
invariant-loop-lamp l = l.out ≡ paste l.initial.out l.at (map lamp_digit (lamps_shown l.lamps)) l.lamp
