use Rattle.std.proofs.Common.{length}
use Rattle.script.specs.Seen.{seen}
use Rattle.runs.proofs.Turning.{Going}
use Rattle.runs.proofs.run.run_script.Given as goal

-- the lines so far were worked and answered
abbrev pub invariant-loop-book : goal.invariant-loop-book
invariant-loop-book g l =
    let r = g.R.Recogniser in
    Going r.meaning r.orderly r.tally l.script l.fn.cells l.fn.recogniser l.initial.out l.lines l.written l.book.records l.cells l.recogniser (seen l.script l.cursor) l.out

abbrev pub decreases-loop-book : goal.decreases-loop-book
decreases-loop-book g l = length (seen l.script l.cursor)
