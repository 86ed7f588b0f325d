-- Runs under a panel that was made for them.
use Rattle.std.proofs.Common.{◌≡◌, ℕ, Option, None, true, List, [], ap, sym, subst, ◌∙◌}
use Rattle.monoid.specs.Meaning.{Meaning}
use Rattle.plain.specs.declared.call.Call.{Call}
use Rattle.records.specs.declared.records.Records.{Records}
use Rattle.cells.specs.declared.cell.Cell.{Cell}
use Rattle.calls.specs.declared.outcome.Outcome.{Outcome}
use Rattle.calls.specs.Runs.{AtEach, WorkedThrough}
use Rattle.script.specs.Parts.{Bytes}
use Rattle.runs.specs.Told.{Told}
use Rattle.watch.specs.Runs.{MadeAs, RunAt, ToldAt}

module _ {S E : Type 0} {meaning : S → Meaning E} {orderly : S → Type 0} {tally : S → ℕ} {kept : S → ℕ → ℕ → Option ℕ} {Fresh : S → Type 0} {shown : Meaning E} {panel : S} where
  made_as : meaning panel ≡ shown → orderly panel → tally panel ≡ 0 → ((i j : ℕ) → kept panel i j ≡ None) → Fresh panel → MadeAs meaning orderly tally kept Fresh shown panel
  made_as shows order unasked nothing fresh = record { shows = shows; order = order; unasked = unasked; nothing_kept = nothing; fresh = fresh }

  pub told_at : {script : Bytes} {x y : List (Cell E)} {out out' : Bytes} {answer : ℕ × ℕ × ℕ} {panel_after : S} → meaning panel ≡ shown → orderly panel → tally panel ≡ 0 → ((i j : ℕ) → kept panel i j ≡ None) → Fresh panel → Told meaning orderly tally script x y panel panel_after out out' answer → ToldAt meaning orderly tally kept Fresh shown script x y out out' answer
  told_at {panel_after = after} shows order unasked nothing fresh told = record { panel = panel; panel_after = after; made = made_as shows order unasked nothing fresh; told = told }

  pub worked_at : {book : Records} {x y : List (Cell E)} {panel_after : S} {calls : List Call} {outcomes : List Outcome} → meaning panel ≡ shown → orderly panel → tally panel ≡ 0 → ((i j : ℕ) → kept panel i j ≡ None) → Fresh panel → WorkedThrough meaning orderly tally x y panel panel_after book calls outcomes → RunAt meaning orderly tally kept Fresh shown x y calls outcomes
  worked_at {book = book} {panel_after = after} shows order unasked nothing fresh worked =
      let first = worked.first in
      let capacity : first.records.capacity ≡ book.capacity = worked.created.capacity ∙ sym worked.capacity in
      record {
        panel = panel;
        panel_after = after;
        book = book;
        made = made_as shows order unasked nothing fresh;
        worked = worked;
        promised =
            subst (λ m. AtEach true m book.capacity [] first [] worked.turns) (ap meaning worked.recogniser_is ∙ shows)
            (subst (λ (k : ℕ). AtEach true (meaning first.recogniser) k [] first [] worked.turns) capacity
            (worked.ran.promised true (λ law. subst orderly (sym worked.recogniser_is) order)));
      }
