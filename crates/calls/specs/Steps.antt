-- What a call does to a book, beside the plain book: what it answers, how many products it asks for, and what it leaves alone.
use Rattle.std.specs.Prelude.{◌≡◌, ℕ, ◌≤◌, max, Bool, true, false, cond, List, [], ◌∷◌, length, Some, None, Option, ◌==◌}
use Rattle.monoid.specs.Meaning.{Meaning}
use Rattle.monoid.specs.Words.{image_of}
use Rattle.monoid.specs.declared.lamps.Lamps.{Lamps}
use Rattle.monoid.specs.Lamps.{no_lamps, lamps_of, Verdicts}
use Rattle.plain.specs.declared.call.Call.{Call}
use Rattle.plain.specs.declared.call.Call.TheVariants.{Copy, Recalculate}
use Rattle.plain.specs.declared.refusal.Refusal.{Refusal}
use Rattle.plain.specs.declared.refusal.Refusal.TheVariants.{BrokenCells}
use Rattle.plain.specs.Calls.{tag_of, names}
use Rattle.plain.specs.Forms.{Shows, nothing, form, shows_of}
use Rattle.plain.specs.Sheets.{Sheet, is_paused, such, rows_of}
use Rattle.plain.specs.Plain.{PlainBook, refusal, next, rows_named}
use Rattle.cells.specs.Trees.{leaf}
use Rattle.cells.specs.Truth.{True}
use Rattle.changes.specs.Costs.{is_edit, dearest}
use Rattle.changes.specs.Spared.{Spares}
use Rattle.calls.specs.declared.outcome.Outcome.{Outcome}
use Rattle.calls.specs.Models.{Model, plain_of}

-- the sheet of a tag, if there is one
abbrev pub sheet_at : {X : Type 0} → ℕ → List (Sheet X) → Option (Sheet X)
sheet_at tag [] = None
sheet_at tag (s ∷ ss) = cond (s.tag == tag) (Some s) (sheet_at tag ss)

-- the greater of the sheet's rows before and after
abbrev pub most_rows : PlainBook → PlainBook → Call → ℕ
most_rows before after call = max (length (rows_of [] (tag_of call) before)) (length (rows_of [] (tag_of call) after))

-- whole and range show lamps
abbrev pub shows_lamps : Shows → Bool
shows_lamps nothing = false
shows_lamps _ = true

abbrev pub asks_lamps : Call → Bool
asks_lamps call = shows_lamps (shows_of (form call).effect)

-- the lamps of an outcome: those of the rows named, where lamps were asked for and the call was accepted
abbrev pub lamps_after : {E : Type 0} → Meaning E → PlainBook → Call → Option Refusal → Lamps
lamps_after m book call None = cond (asks_lamps call) (lamps_of m (image_of m (rows_named book call))) no_lamps
lamps_after m book call (Some reason) = no_lamps

-- the answer: the plain book's, so never that the cells are broken; and under a lawful recogniser exactly the lamps whose language
-- holds the rows named
pub record Answers {E : Type 0} (lawful : Bool) (m : Meaning E) (capacity : ℕ) (book : PlainBook) (call : Call) (outcome : Outcome) : Type 0 where
  pub refusal_is : outcome.refusal ≡ refusal capacity book call
  pub unbroken : outcome.refusal ≡ Some BrokenCells → ⊥
  pub lamps_are : lawful ≡ true → outcome.lamps ≡ lamps_after m book call outcome.refusal
  pub verdicts : lawful ≡ true → outcome.refusal ≡ None → asks_lamps call ≡ true → Verdicts m (rows_named book call) outcome.lamps
  -- as many as the recogniser has, whether it is lawful or not
  pub wide : outcome.lamps.width ≡ (lamps_after m book call outcome.refusal).width

-- the count: no more products than the call may ask for, and none by an edit of a paused sheet
pub record Bounded {E : Type 0} (before : Model E) (call : Call) (outcome : Outcome) (after : Model E) : Type 0 where
  pub most : outcome.count ≤ dearest call (most_rows (plain_of before) (plain_of after) call)
  pub quiet : is_edit call ≡ true → such is_paused (tag_of call) before ≡ true → outcome.count ≡ 0

-- what is kept: of a sheet its very tree, and so its rows, their places and its stored products
pub record Leaves {E : Type 0} (before : Model E) (call : Call) (outcome : Outcome) (after : Model E) : Type 0 where
  -- every sheet, by a call that is declined
  pub declined : (reason : Refusal) → outcome.refusal ≡ Some reason → after ≡ before
  -- a sheet that is not named, and the one that is copied
  pub others : (tag : ℕ) → names call tag ≡ false → sheet_at tag after ≡ sheet_at tag before
  pub source : (tag new : ℕ) → call ≡ Copy tag new → sheet_at tag after ≡ sheet_at tag before
  -- all but the products of rows whose stretch held the row, by a replacement
  pub spared : outcome.refusal ≡ None → Spares call (rows_of leaf (tag_of call) before) (rows_of leaf (tag_of call) after)

-- one call, from one model to the next, with its outcome, beside the plain book
pub record Step {E : Type 0} (lawful : Bool) (m : Meaning E) (capacity : ℕ) (before : Model E) (call : Call) (outcome : Outcome) (after : Model E) : Type 0 where
  pub book_is : plain_of after ≡ next capacity (plain_of before) call
  pub answers : Answers lawful m capacity (plain_of before) call outcome
  pub bounded : Bounded before call outcome after
  pub leaves : Leaves before call outcome after
  -- every stored product of a sheet that was recalculated is the image of its stretch
  pub renewed : lawful ≡ true → outcome.refusal ≡ None → (tag : ℕ) → call ≡ Recalculate tag → True m (rows_of leaf tag after)
