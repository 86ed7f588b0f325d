-- The listing of a run, from the script's bytes, the capacity, the room of the output, and what lamps a word lights.
use Rattle.std.specs.Prelude.{ℕ, ◌+◌, ◌-◌, Bool, cond, List, [], ◌∷◌, map, length, Some, Option, Ok, Err, Result, nat_le}
use Rattle.std.specs.List.{range_with_len, flat_map}
use Rattle.std.specs.Option.{option_map}
use Rattle.monoid.specs.Meaning.{Meaning}
use Rattle.monoid.specs.Words.{Word, image_of}
use Rattle.plain.specs.Plain.{PlainBook, refusal, number, unless, next, rows_named}
use Rattle.plain.specs.declared.call.Call.{Call}
use Rattle.plain.specs.Forms.{Shows, nothing, form, shows_of}
use Rattle.script.specs.Said.{said}
use Rattle.script.specs.Faults.{cause_number, fault}
use Rattle.script.specs.Lines.{lines}
use Rattle.script.specs.Parts.{Bytes}
use Rattle.script.specs.declared.fault.Fault.{Fault}
use Rattle.script.specs.declared.fault.Cause.TheVariants.{Refused}
use Rattle.listing.specs.declared.ending.Ending.{Ending}
use Rattle.listing.specs.declared.ending.Ending.TheVariants.{Complete, OutputFull, ScriptTooLong}
use Rattle.listing.specs.Answers.{answer_text, ended}
use Rattle.listing.specs.Endings.{ending_number}
use Rattle.listing.specs.Outputs.{has_room}

-- the lamps of a word, from lamp 0: each is lit where its language holds the word
abbrev pub lamps_by : {E : Type 0} → Meaning E → Word → List Bool
lamps_by m rows = map (m.lit (image_of m rows)) (range_with_len 0 m.width)

-- the plain book after a line, which a fault leaves as it is
abbrev pub book_after : ℕ → PlainBook → Result Call Fault → PlainBook
book_after capacity book (Ok call) = next capacity book call
book_after capacity book (Err fault) = book

-- the plain book after lines, of which `done` stand before them
abbrev pub book_through : ℕ → ℕ → PlainBook → List Bytes → PlainBook
book_through capacity done book [] = book
book_through capacity done book (line ∷ rest) = book_through capacity (done + 1) (book_after capacity book (said (done + 1) line)) rest

-- whole and range show the lamps of the rows that they name, and other calls show none
abbrev pub shown_of : (Word → List Bool) → Shows → Word → List Bool
shown_of lamps nothing rows = []
shown_of lamps _ rows = lamps rows

abbrev pub shown : (Word → List Bool) → PlainBook → Call → List Bool
shown lamps book call = shown_of lamps (shows_of (form call).effect) (rows_named book call)

-- why a line is not worked, if it is not: its own fault, or the book's refusal of its call
abbrev pub fault_due : ℕ → ℕ → PlainBook → Result Call Fault → Option Fault
fault_due capacity line book (Ok call) = option_map (λ refused. fault (Refused refused) line 0) (refusal capacity book call)
fault_due capacity line book (Err f) = Some f

module _ (lamps : Word → List Bool) (capacity : ℕ) where
  -- the answer to a line: that of its fault, or of the plain book to its call
  abbrev pub answered : ℕ → PlainBook → Result Call Fault → Bytes
  answered line book (Ok call) = answer_text line (number capacity book call) 0 (unless (refusal capacity book call) (shown lamps book call) [])
  answered line book (Err fault) = answer_text fault.line (cause_number fault.cause) fault.field []

  -- the answers to lines, of which `done` stand before them
  abbrev pub answers : ℕ → PlainBook → List Bytes → List Bytes
  answers done book [] = []
  answers done book (line ∷ rest) = answered (done + 1) book (said (done + 1) line) ∷ answers (done + 1) (book_after capacity book (said (done + 1) line)) rest

  -- those to a script, which begins with no sheets
  abbrev pub answers_to : Bytes → List Bytes
  answers_to script = answers 0 [] (lines script)

-- the answers that are written: before each the output has room
abbrev pub fitting : ℕ → List Bytes → List Bytes
fitting room [] = []
fitting room (text ∷ texts) = cond (has_room room) (text ∷ fitting (room - length (ended text)) texts) []

abbrev pub ending : ℕ → List Bytes → Ending
ending room [] = Complete
ending room (text ∷ texts) = cond (has_room room) (ending (room - length (ended text)) texts) OutputFull

-- how a run ends, how many lines it worked, and the bytes that it wrote
pub record Run : Type 0 where
  pub ending : Ending
  pub lines : ℕ
  pub bytes : Bytes

abbrev pub listing : ℕ → List Bytes → Run
listing room texts = record { ending = ending room texts; lines = length (fitting room texts); bytes = flat_map ended (fitting room texts) }

-- a script of more than 16,384 bytes is not worked
abbrev pub is_workable : ℕ → Bool
is_workable n = nat_le n 16384

abbrev pub run : (Word → List Bool) → ℕ → ℕ → Bytes → Run
run lamps capacity room script =
    cond (is_workable (length script)) (listing room (answers_to lamps capacity script)) (record { ending = ScriptTooLong; lines = 0; bytes = [] })

-- what a run answers: its number, the lines worked, and the bytes written
abbrev pub numbers : Run → ℕ × ℕ × ℕ
numbers r = (ending_number r.ending, r.lines, length r.bytes)
