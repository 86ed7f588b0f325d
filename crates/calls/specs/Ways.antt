-- How the calls are worked: on the records alone, on the tree of one sheet, or as a question.
use Rattle.std.specs.Prelude.{◌≡◌, ℕ, true, Some, None, Option}
use Rattle.monoid.specs.Meaning.{Meaning}
use Rattle.monoid.specs.Lamps.{no_lamps, lamps_of}
use Rattle.plain.specs.declared.call.Call.{Call}
use Rattle.plain.specs.Forms.{Effect, opens, copies, renames, closes, edits, pauses, recalculates, looks, form}
use Rattle.plain.specs.declared.refusal.Refusal.{Refusal}
use Rattle.plain.specs.declared.refusal.Refusal.TheVariants.{BrokenCells}
use Rattle.records.specs.declared.records.Records.{Records}
use Rattle.records.specs.Views.{refusal_by}
use Rattle.records.specs.Changes.{Committed}
use Rattle.changes.specs.declared.change.Change.{Change}
use Rattle.calls.specs.declared.outcome.Outcome.{Outcome}

-- open, rename and pause change the records alone
abbrev pub notes : Effect → Type 0
notes opens = Unit {0}
notes (renames new) = Unit {0}
notes pauses = Unit {0}
notes _ = ⊥

abbrev pub Noting : Call → Type 0
Noting call = notes (form call).effect

-- copy, close, edits and recalculate change or make the tree of one sheet
abbrev pub works_tree : Effect → Type 0
works_tree (copies new) = Unit {0}
works_tree closes = Unit {0}
works_tree (edits e) = Unit {0}
works_tree recalculates = Unit {0}
works_tree _ = ⊥

abbrev pub Worked : Call → Type 0
Worked call = works_tree (form call).effect

-- those leave every cell as it is that change the records alone, and those that only look
abbrev pub keeps_cells : Effect → Type 0
keeps_cells (looks shows) = Unit {0}
keeps_cells effect = notes effect

abbrev pub KeepsCells : Call → Type 0
KeepsCells call = keeps_cells (form call).effect

-- those that only look leave the records as they are too
abbrev pub keeps_records : Effect → Type 0
keeps_records (looks shows) = Unit {0}
keeps_records _ = ⊥

abbrev pub KeepsRecords : Call → Type 0
KeepsRecords call = keeps_records (form call).effect

-- an outcome that shows no lamps
abbrev pub dark : Option Refusal → ℕ → Outcome
dark refusal count = record { refusal = refusal; lamps = no_lamps; count = count }

-- a change is recorded where the call is accepted; where the cells were broken, the records stay
abbrev pub Concludes : Records → Records → Call → Option Change → ℕ → Outcome → Type 0
Concludes b b' call None n r = (b' ≡ b) × (r ≡ dark (Some BrokenCells) n)
Concludes b b' call (Some change) n r = refusal_by b call ≡ None → Committed b b' call change.root change.unused × (r ≡ dark None n)

-- the lamps of an image; none where the cells were broken
abbrev pub Shows : {S E : Type 0} → (S → Meaning E) → (S → Type 0) → S → Option E → ℕ → Outcome → Type 0
Shows meaning orderly s None n r = r ≡ dark (Some BrokenCells) n
Shows {S} {E} meaning orderly s (Some x) n r =
    (r.refusal ≡ None)
    × (r.count ≡ n)
    × (r.lamps.width ≡ (meaning s).width)
    × (orderly s → (meaning s).sound x ≡ true → r.lamps ≡ lamps_of (meaning s) x)
