-- What an accepted call does to the records, given where the tree of the sheet that it changes or makes has its root.
use Rattle.std.specs.Prelude.{◌≡◌, ℕ, List, map, None, Option, slice_index_or, slice_set}
use Rattle.plain.specs.declared.state.State.TheVariants.{Settled, Paused}
use Rattle.plain.specs.declared.call.Call.{Call}
use Rattle.plain.specs.Forms.{Effect, renames, edits, pauses, recalculates, form}
use Rattle.plain.specs.Sheets.{Sheet}
use Rattle.plain.specs.Steps.{Rows, after}
use Rattle.plain.specs.Plain.{counts}
use Rattle.records.specs.declared.record.Record.{Record}
use Rattle.records.specs.declared.records.Records.{Records}
use Rattle.records.specs.Entries.{blank}
use Rattle.records.specs.Views.{standing}

-- how many rows, and where their tree has its root
abbrev pub Rooted : Type 0
Rooted = ℕ × Option ℕ

-- the edits, with the root that the tree has after them
abbrev pub rooted : Option ℕ → Rows Rooted
rooted root = record {
  none = (0, None);
  copy = λ x. (x.0, root);
  edit = λ e x. (counts.edit e x.0, root);
  renew = λ x. (counts.renew x.0, root);
}

abbrev pub sheet_of : Record → Sheet Rooted
sheet_of r = record { tag = r.tag; state = r.state; rows = (r.rows, r.root) }

abbrev pub sheets_of : Records → List (Sheet Rooted)
sheets_of b = map sheet_of (standing b)

-- the sheets are changed as the call says, and the unused cells begin elsewhere
pub record Committed (b b' : Records) (call : Call) (root unused : Option ℕ) : Type 0 where
  pub sheets : sheets_of b' ≡ after (rooted root) (sheets_of b) call
  pub capacity : b'.capacity ≡ b.capacity
  pub head : b'.unused ≡ unused

-- what is done to the record of a sheet, whose tree then has that root
abbrev pub done_to : Effect → Option ℕ → Record → Record
done_to (renames new) root r = record r { tag = new }
done_to (edits e) root r = record r { rows = counts.edit e r.rows; root = root }
done_to pauses root r = record r { state = Paused }
done_to recalculates root r = record r { state = Settled; root = root }
done_to _ root r = r

-- what a call does to the record of its sheet
abbrev pub taken : Call → Option ℕ → Record → Record
taken call root r = done_to (form call).effect root r

-- the same, at a place among the records
abbrev pub taken_at : ℕ → Call → Option ℕ → List Record → List Record
taken_at at call root rs = slice_set rs at (taken call root (slice_index_or rs at blank))
