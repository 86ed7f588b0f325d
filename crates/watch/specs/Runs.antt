-- A run of calls, and a run of a script, under a panel that was made for it.
use Rattle.std.specs.Prelude.{◌≡◌, ℕ, Option, None, true, List, []}
use Rattle.monoid.specs.Meaning.{Meaning}
use Rattle.plain.specs.declared.call.Call.{Call}
use Rattle.records.specs.declared.records.Records.{Records}
use Rattle.cells.specs.declared.cell.Cell.{Cell}
use Rattle.calls.specs.declared.outcome.Outcome.{Outcome}
use Rattle.calls.specs.Runs.{AtEach, WorkedThrough}
use Rattle.script.specs.Parts.{Bytes}
use Rattle.runs.specs.Told.{Told}

module _ {S E : Type 0} (meaning : S → Meaning E) (orderly : S → Type 0) (tally : S → ℕ) (kept : S → ℕ → ℕ → Option ℕ) (Fresh : S → Type 0) where
  -- it shows such lamps and is in order, its tally is 0, it keeps no product, and so it is with all that is in it
  pub record MadeAs (shown : Meaning E) (panel : S) : Type 0 where
    pub shows : meaning panel ≡ shown
    pub order : orderly panel
    pub unasked : tally panel ≡ 0
    pub nothing_kept : (i j : ℕ) → kept panel i j ≡ None
    pub fresh : Fresh panel

  -- the calls were worked under a panel that was fresh before the first of them
  pub record RunAt (shown : Meaning E) (x y : List (Cell E)) (calls : List Call) (outcomes : List Outcome) : Type 0 where
    pub panel : S
    pub panel_after : S
    pub book : Records
    pub made : MadeAs shown panel
    pub worked : WorkedThrough meaning orderly tally x y panel panel_after book calls outcomes
    -- every promise, and true lamps, with no premise left
    pub promised : AtEach true shown book.capacity [] worked.first [] worked.turns

  -- the script was run under a panel that was fresh before its first line
  pub record ToldAt (shown : Meaning E) (script : Bytes) (x y : List (Cell E)) (out out' : Bytes) (answer : ℕ × ℕ × ℕ) : Type 0 where
    pub panel : S
    pub panel_after : S
    pub made : MadeAs shown panel
    pub told : Told meaning orderly tally script x y panel panel_after out out' answer
