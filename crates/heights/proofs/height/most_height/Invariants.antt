use Rattle.std.proofs.Common.{◌≡◌, ◌+◌, ◌-◌, ◌≤◌}
use Rattle.heights.specs.Heights.{fewest}
use Rattle.heights.proofs.height.most_height.Given as goal

abbrev pub invariant-loop-over : goal.invariant-loop-over
invariant-loop-over l = (l.fewest ≡ fewest l.height) × (l.next ≡ fewest (l.height + 1)) × (l.fewest ≤ l.rows)

abbrev pub decreases-loop-over : goal.decreases-loop-over
decreases-loop-over l = l.rows + 1 - l.next
