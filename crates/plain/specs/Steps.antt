-- What an accepted call does to the sheets, whatever their rows are given as.
use Rattle.std.specs.Prelude.{ℕ, cond, List, [], ◌∷◌, ◌++◌, ◌==◌}
use Rattle.plain.specs.declared.state.State.TheVariants.{Settled, Paused}
use Rattle.plain.specs.declared.call.Call.{Call}
use Rattle.plain.specs.Calls.{tag_of}
use Rattle.plain.specs.Forms.{Edit, Effect, opens, copies, renames, closes, edits, pauses, recalculates, looks, form}
use Rattle.plain.specs.Sheets.{Sheet, fresh, retagged, restated, edited, altered, without}

-- how rows are changed: none, the same once more, those of an edit, the same recalculated
pub record Rows (X : Type 0) : Type 0 where
  pub none : X
  pub copy : X → X
  pub edit : Edit → X → X
  pub renew : X → X

module _ {X : Type 0} (rows : Rows X) where
  -- the sheet of the tag once more, under a new tag
  abbrev pub copies_of : ℕ → ℕ → List (Sheet X) → List (Sheet X)
  copies_of tag new [] = []
  copies_of tag new (s ∷ ss) = cond (s.tag == tag) (fresh new (rows.copy s.rows) ∷ []) (copies_of tag new ss)

  -- what is done to the sheet of a tag
  abbrev pub done : Effect → ℕ → List (Sheet X) → List (Sheet X)
  done opens tag sheets = sheets ++ (fresh tag rows.none ∷ [])
  done (copies new) tag sheets = sheets ++ copies_of tag new sheets
  done (renames new) tag sheets = altered tag (retagged new) sheets
  done closes tag sheets = without tag sheets
  done (edits e) tag sheets = altered tag (edited (rows.edit e)) sheets
  done pauses tag sheets = altered tag (restated Paused) sheets
  done recalculates tag sheets = altered tag (λ s. restated Settled (edited rows.renew s)) sheets
  done (looks shows) tag sheets = sheets

  -- what an accepted call does
  abbrev pub after : List (Sheet X) → Call → List (Sheet X)
  after sheets call = done (form call).effect (tag_of call) sheets
