-- How many products a call may ask for.
use Rattle.std.specs.Prelude.{ℕ, ◌+◌, ◌*◌, Bool, true, false, cond, ◌&&◌}
use Rattle.plain.specs.declared.call.Call.{Call}
use Rattle.plain.specs.Forms.{first_to_last, Effect, copies, edits, recalculates, looks, form}
use Rattle.plain.specs.declared.state.State.{State}
use Rattle.plain.specs.Sheets.{is_paused}
use Rattle.heights.specs.Heights.{highest}

-- insert, strike and replace are edits
abbrev pub an_edit : Effect → Bool
an_edit (edits e) = true
an_edit _ = false

abbrev pub is_edit : Call → Bool
is_edit call = an_edit (form call).effect

-- edits, ranges and recalculations ask the recogniser for products, and no other call does
abbrev pub asks_nothing : Effect → Type 0
asks_nothing (edits e) = ⊥
asks_nothing (looks (first_to_last first last)) = ⊥
asks_nothing recalculates = ⊥
asks_nothing _ = Unit {0}

abbrev pub AsksNothing : Call → Type 0
AsksNothing call = asks_nothing (form call).effect

-- how many products may be asked for, of so many rows
abbrev pub most_of : Effect → ℕ → ℕ
most_of (copies new) n = 2 * n
most_of (edits e) n = 8 * highest n + 8
most_of (looks (first_to_last first last)) n = 4 * highest n + 4
most_of recalculates n = 2 * n
most_of _ n = 0

abbrev pub dearest : Call → ℕ → ℕ
dearest call n = most_of (form call).effect n

-- the same in a state of the sheet: an edit of a paused one asks for none
abbrev pub dearest_in : State → Call → ℕ → ℕ
dearest_in s call n = cond (is_edit call && is_paused s) 0 (dearest call n)
