use Rattle.std.specs.Vec.{vec_len}
use Rattle.book_trial.proofs.tokens.spend_all.Given as goal

-- nothing is asked of the tokens
abbrev pub invariant-loop-token : goal.invariant-loop-token
invariant-loop-token g l = Unit {0}

-- there is one token less each time
abbrev pub decreases-loop-token : goal.decreases-loop-token
decreases-loop-token g l = vec_len l.rest
