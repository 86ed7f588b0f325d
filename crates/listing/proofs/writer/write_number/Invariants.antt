use Rattle.std.proofs.Common.{◌≡◌, ◌+◌, ◌<◌, ◌≤◌, ◌++◌, take, drop, decimal}
use Rattle.listing.proofs.writer.write_number.Given as goal

abbrev pub invariant-loop-left : goal.invariant-loop-left
invariant-loop-left l =
    (l.left ≤ l.size)
    × (l.rest ≤ l.number)
    × (0 < l.left → take l.left (decimal l.number) ≡ decimal l.rest)
    × (l.out ≡ take (l.at + l.left) l.initial.out ++ (drop l.left (decimal l.number) ++ drop (l.at + l.size) l.initial.out))

abbrev pub decreases-loop-left : goal.decreases-loop-left
decreases-loop-left l = l.left
