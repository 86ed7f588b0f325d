use Rattle.std.proofs.Common.{length}
use Rattle.listing_trial.proofs.main.Given as goal

-- what is left of the batch
abbrev pub decreases-loop-case : goal.decreases-loop-case
decreases-loop-case l = length l.rest
