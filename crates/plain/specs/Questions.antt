-- What each call asks of the sheets, in order.
use Rattle.std.specs.Prelude.{ℕ, ◌+◌, Bool, true, not, ◌&&◌, List, [], ◌∷◌, map, length, Option, nat_le, nat_lt}
use Rattle.plain.specs.declared.call.Call.{Call}
use Rattle.plain.specs.declared.question.Question.{Question}
use Rattle.plain.specs.declared.question.Question.TheVariants.{Standing, Unused, FewerThanEight, Settled, Paused, RowIn, GapIn, RowsIn, RoomForOne, RoomForCopy}
use Rattle.plain.specs.Forms.{form, tags_of}
use Rattle.plain.specs.declared.refusal.Refusal.{Refusal}
use Rattle.plain.specs.declared.refusal.Refusal.TheVariants.{TagOutOfRange, NoSuchSheet, TagInUse, TooManySheets, NotSettled, NotPaused, RowOutOfRange, NoRoom}
use Rattle.plain.specs.Refusals.{Answer, first_no}
use Rattle.plain.specs.Sheets.{Sheet, is_settled, is_paused, named, such, rows_of, total}

-- a tag is from 1 to 9,999
abbrev pub is_tag : ℕ → Bool
is_tag tag = nat_le 1 tag && nat_le tag 9999

-- the row is one of n
abbrev pub is_row : ℕ → ℕ → Bool
is_row n row = nat_le 1 row && nat_le row n

-- the rows first to last are among n; none are named where last is the one before first
abbrev pub is_range : ℕ → ℕ → ℕ → Bool
is_range n first last = is_row (n + 1) first && (nat_le first (last + 1) && nat_le last n)

-- each tag is one
abbrev pub all_tags : List ℕ → Bool
all_tags [] = true
all_tags (tag ∷ []) = is_tag tag
all_tags (tag ∷ (other ∷ tags)) = is_tag tag && all_tags (other ∷ tags)

-- the refusal where a question is answered no
abbrev pub reason_of : Question → Refusal
reason_of (Standing tag) = NoSuchSheet
reason_of (Unused tag) = TagInUse
reason_of FewerThanEight = TooManySheets
reason_of (Settled tag) = NotSettled
reason_of (Paused tag) = NotPaused
reason_of (RowIn tag row) = RowOutOfRange
reason_of (GapIn tag row) = RowOutOfRange
reason_of (RowsIn tag first last) = RowOutOfRange
reason_of RoomForOne = NoRoom
reason_of (RoomForCopy tag) = NoRoom

module _ (capacity : ℕ) (sheets : List (Sheet ℕ)) where
  -- what the sheets answer
  abbrev pub holds : Question → Bool
  holds (Standing tag) = named tag sheets
  holds (Unused tag) = not (named tag sheets)
  holds FewerThanEight = nat_lt (length sheets) 8
  holds (Settled tag) = such is_settled tag sheets
  holds (Paused tag) = such is_paused tag sheets
  holds (RowIn tag row) = is_row (rows_of 0 tag sheets) row
  holds (GapIn tag row) = is_row (rows_of 0 tag sheets + 1) row
  holds (RowsIn tag first last) = is_range (rows_of 0 tag sheets) first last
  holds RoomForOne = nat_le (total sheets + 1) capacity
  holds (RoomForCopy tag) = nat_le (total sheets + rows_of 0 tag sheets) capacity

  abbrev pub answer : Question → Answer
  answer question = (holds question, reason_of question)

  -- what is answered to a call: first of its tags, and then by the sheets
  abbrev pub answers : Call → List Answer
  answers call = (all_tags (tags_of (form call).effect (form call).tag), TagOutOfRange) ∷ map answer (form call).asks

  -- the refusal of a call, if there is one
  abbrev pub refusal_of : Call → Option Refusal
  refusal_of call = first_no (answers call)
