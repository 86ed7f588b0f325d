use Rattle.std.proofs.Common.{◌≡◌, ◌≤◌, take, drop}
use Rattle.calls.specs.Runs.{WorkedThrough}
use Rattle.book.proofs.work.work.Given as goal

-- the calls so far were worked, and the later places hold what they held
abbrev pub invariant-loop-at : goal.invariant-loop-at
invariant-loop-at g l =
    let r = g.R.Recogniser in
    record {
      within : l.at ≤ l.worked;
      worked : WorkedThrough r.meaning r.orderly r.tally l.fn.cells l.cells l.fn.recogniser l.recogniser l.book.records (take l.at l.calls) (take l.at l.outcomes);
      rest : drop l.worked l.outcomes ≡ drop l.worked l.initial.outcomes;
    }
