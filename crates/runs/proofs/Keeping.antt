-- What the turn of one line keeps of the book, whatever the line says.
use Rattle.std.proofs.Common.{◌≡◌, ℕ, Bool, true, List, [], ◌∷◌, ◌++◌, Ok, Err, Result, sym, subst}
use Rattle.std.proofs.lemmas.List.{append-nil}
use Rattle.monoid.specs.Laws.{Shaped}
use Rattle.monoid.specs.Meaning.{Meaning}
use Rattle.monoid.specs.declared.lamps.Lamps.{Lamps}
use Rattle.plain.specs.declared.call.Call.{Call}
use Rattle.records.specs.declared.records.Records.{Records}
use Rattle.cells.specs.declared.cell.Cell.{Cell}
use Rattle.calls.specs.declared.outcome.Outcome.{Outcome}
use Rattle.calls.specs.Calls.{Called}
use Rattle.calls.specs.Runs.{through, GoesOn, WorkedThrough}
use Rattle.calls.proofs.Through.{worked_more, answers_next, worked_still}
use Rattle.script.specs.Parts.{Bytes}
use Rattle.script.specs.declared.fault.Fault.{Fault}
use Rattle.listing.specs.Answers.{text_of, answer_to}
use Rattle.listing.specs.Listings.{lamps_by, answered}
use Rattle.runs.specs.Answers.{LineWorked, lamps_or_refusal}
use Rattle.runs.specs.Scripted.{before_all}
use Rattle.runs.specs.Told.{Agree}
use Rattle.runs.proofs.Showing.{call_agrees, fault_agrees}

-- a line that says r is worked, and answered by the text
pub record Kept {S E : Type 0} (meaning : S → Meaning E) (orderly : S → Type 0) (tally : S → ℕ) (b b' : Records) (y z : List (Cell E)) (t t' : S) (r : Result Call Fault) (line : ℕ) (text : Bytes) : Type 0 where
  pub agrees : (x : List (Cell E)) (s : S) (calls : List Call) (outcomes : List Outcome) → WorkedThrough meaning orderly tally x y s t b calls outcomes
      → (lawful : Bool) → (lawful ≡ true → orderly s) → Agree lawful text (answered (lamps_by (meaning s)) b.capacity line (through b.capacity [] calls) r)
  pub goes : (x : List (Cell E)) (s : S) (calls : List Call) (outcomes : List Outcome) → WorkedThrough meaning orderly tally x y s t b calls outcomes
      → (more : List Outcome) × WorkedThrough meaning orderly tally x z s t' b' (calls ++ before_all r []) more

module _ {S E : Type 0} (meaning : S → Meaning E) (orderly : S → Type 0) (tally : S → ℕ) (b b' : Records) (y z : List (Cell E)) (t t' : S) (line : ℕ) where
  -- a fault changes nothing
  kept_fault : (e : Fault) → b' ≡ b → z ≡ y → t' ≡ t → Kept meaning orderly tally b b' y z t t' (Err e) line (text_of (answer_to line (Err e)))
  kept_fault e records cells recogniser = record {
    agrees = λ x s calls outcomes so_far lawful ordered. fault_agrees (meaning s) (through b.capacity [] calls) b.capacity line lawful e;
    goes = λ x s calls outcomes so_far. (
      outcomes,
      subst (λ (cs : List Call). WorkedThrough meaning orderly tally x z s t' b' cs outcomes) (sym (append-nil calls)) (worked_still meaning orderly tally x s y z t t' b b' calls outcomes records cells recogniser so_far),
    );
  }

  -- a call is answered as the plain book answers it
  kept_call : Shaped (meaning t) → (call : Call) (r : Outcome) → Called meaning orderly tally b b' y z t t' call r → GoesOn meaning orderly tally b b' y z t t' call r
      → Kept meaning orderly tally b b' y z t t' (Ok call) line (text_of (answer_to line (lamps_or_refusal line r.refusal r.lamps)))
  kept_call shaped call r called goes = record {
    agrees = λ x s calls outcomes so_far lawful ordered.
        let answers = answers_next meaning orderly tally x s y z t t' b b' calls outcomes call r so_far called lawful ordered in
        call_agrees (meaning s) (through b.capacity [] calls) (subst Shaped so_far.same shaped) b.capacity line lawful call r.refusal r.lamps answers.refusal_is answers.lamps_are answers.wide;
    goes = λ x s calls outcomes so_far. (outcomes ++ (r ∷ []), worked_more meaning orderly tally x s y z t t' b b' calls outcomes call r so_far called goes);
  }

  -- what a line says is worked in either way
  pub kept : Shaped (meaning t) → (says : Result Call Fault) (r : Result Lamps Fault) → LineWorked meaning orderly tally b b' y z t t' says line r
      → Kept meaning orderly tally b b' y z t t' says line (text_of (answer_to line r))
  kept shaped (Err e) r worked =
      subst (λ (v : Result Lamps Fault). Kept meaning orderly tally b b' y z t t' (Err e) line (text_of (answer_to line v))) (sym worked.0)
      (kept_fault e worked.1 worked.2 worked.3)
  kept shaped (Ok call) r made =
      subst (λ (v : Result Lamps Fault). Kept meaning orderly tally b b' y z t t' (Ok call) line (text_of (answer_to line v))) (sym made.1)
      (kept_call shaped call made.0 made.2 made.3)
