use Rattle.std.proofs.Common.{◌≡◌, None}
use Rattle.records.specs.Changes.{Committed}
use Rattle.calls.specs.Ways.{Noting}
use Rattle.calls.specs.Calls.{Called, Noted}
use Rattle.calls.proofs.Declining.{error_is, error_cases}
use Rattle.calls.proofs.Noted.{noted_by, noted_answered, noted_works, noted_called}
use Rattle.calls.proofs.Running.{goes_on}
use Rattle.calls.proofs.noting.note.Goals as goal

pub returns : goal.returns
returns g c =
    let r = g.R.Recogniser in
    let met = g.met.R.Recogniser in
    let s = c.args.recogniser.now in
    let b = c.args.records.now in
    let b' = c.commit.new.self in
    let x = c.args.cells.now in
    let call = c.args.call in
    let told = c.commit in
    let refusal = c.err-refusal in
    let unused = c.unused-unused in
    let refused = error_is told.result refusal.result refusal.ensures.value b call told.ensures.value in
    let cases = error_cases told.result refusal.result refusal.ensures.value (Committed b b' call None unused.result) (λ reason. b' ≡ b) told.ensures.cases in
    let called : Noting call → Called r.meaning r.orderly r.tally b b' x x s s call c.dark.result = λ noted. noted_called r.meaning r.orderly r.tally b b' x s call (met.bounded s) noted refusal.result unused.result c.dark.result refused unused.ensures.value cases c.dark.ensures.value in
    let recorded : Noted b b' call c.dark.result = noted_by b b' call c.dark.result refusal.result unused.result refused unused.ensures.value cases c.dark.ensures.value in
    record {
      noted = recorded;
      answered = noted_answered b b' call c.dark.result recorded;
      called = called;
      works = λ noted lawful. noted_works lawful (r.meaning s) b b' x call noted refusal.result unused.result c.dark.result refused unused.ensures.value cases c.dark.ensures.value;
      runs = λ noted. goes_on r.meaning r.orderly r.tally b b' x x s s call c.dark.result (called noted);
    }
