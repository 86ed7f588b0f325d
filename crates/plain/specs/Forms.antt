-- What each call is, as data: the tags that it names, what it asks of the sheets, and what it does to them. A call is one row; all
-- else that is said of it is read off its row.
use Rattle.std.specs.Prelude.{ℕ, List, [], ◌∷◌}
use Rattle.rows.specs.declared.kind.Kind.{Kind}
use Rattle.plain.specs.declared.call.Call.{Call}
use Rattle.plain.specs.declared.call.Call.TheVariants.{Open, Copy, Rename, Close, Insert, Strike, Replace, Whole, Range, Pause, Recalculate}
use Rattle.plain.specs.declared.question.Question.{Question}
use Rattle.plain.specs.declared.question.Question.TheVariants.{Standing, Unused, FewerThanEight, Settled, Paused, RowIn, GapIn, RowsIn, RoomForOne, RoomForCopy}

-- an edit of rows: one put in as the row of a number, one taken out, one of another kind
pub data Edit : Type 0 where
  inserts : ℕ → Kind → Edit
  strikes : ℕ → Edit
  replaces : ℕ → Kind → Edit

-- the rows whose lamps a question shows
pub data Shows : Type 0 where
  nothing : Shows
  all_rows : Shows
  first_to_last : ℕ → ℕ → Shows

-- what an accepted call does to the sheet of its first tag
pub data Effect : Type 0 where
  -- makes it; makes one with the same rows under another tag; gives it another tag; takes it out
  opens : Effect
  copies : ℕ → Effect
  renames : ℕ → Effect
  closes : Effect
  -- changes its rows
  edits : Edit → Effect
  -- makes it paused; makes it settled, with products anew
  pauses : Effect
  recalculates : Effect
  -- nothing, and shows lamps of it
  looks : Shows → Effect

-- a call: the tag of the sheet that it is about, what it asks in this order once each tag is one from 1 to 9,999, and what it does
pub record Form : Type 0 where
  pub tag : ℕ
  pub asks : List Question
  pub effect : Effect

abbrev pub form : Call → Form
form (Open tag) = record { tag = tag; asks = Unused tag ∷ FewerThanEight ∷ []; effect = opens }
form (Copy tag new) = record { tag = tag; asks = Standing tag ∷ Unused new ∷ FewerThanEight ∷ Settled tag ∷ RoomForCopy tag ∷ []; effect = copies new }
form (Rename tag new) = record { tag = tag; asks = Standing tag ∷ Unused new ∷ Settled tag ∷ []; effect = renames new }
form (Close tag) = record { tag = tag; asks = Standing tag ∷ Settled tag ∷ []; effect = closes }
form (Insert tag row kind) = record { tag = tag; asks = Standing tag ∷ GapIn tag row ∷ RoomForOne ∷ []; effect = edits (inserts row kind) }
form (Strike tag row) = record { tag = tag; asks = Standing tag ∷ RowIn tag row ∷ []; effect = edits (strikes row) }
form (Replace tag row kind) = record { tag = tag; asks = Standing tag ∷ RowIn tag row ∷ []; effect = edits (replaces row kind) }
form (Whole tag) = record { tag = tag; asks = Standing tag ∷ Settled tag ∷ []; effect = looks all_rows }
form (Range tag first last) = record { tag = tag; asks = Standing tag ∷ Settled tag ∷ RowsIn tag first last ∷ []; effect = looks (first_to_last first last) }
form (Pause tag) = record { tag = tag; asks = Standing tag ∷ Settled tag ∷ []; effect = pauses }
form (Recalculate tag) = record { tag = tag; asks = Standing tag ∷ Paused tag ∷ []; effect = recalculates }

-- the rows that an effect shows
abbrev pub shows_of : Effect → Shows
shows_of (looks shows) = shows
shows_of _ = nothing

-- the tags that a call names: that of its sheet, and the new one of a copy or another name
abbrev pub tags_of : Effect → ℕ → List ℕ
tags_of (copies new) tag = tag ∷ new ∷ []
tags_of (renames new) tag = tag ∷ new ∷ []
tags_of _ tag = tag ∷ []
