-- What the records say of the sheets that stand, and of a call.
use Rattle.std.specs.Prelude.{ℕ, List, take, Option}
use Rattle.plain.specs.declared.call.Call.{Call}
use Rattle.plain.specs.declared.refusal.Refusal.{Refusal}
use Rattle.plain.specs.Sheets.{Sheet}
use Rattle.plain.specs.Questions.{refusal_of}
use Rattle.records.specs.declared.record.Record.{Record}
use Rattle.records.specs.declared.records.Records.{Records}
use Rattle.records.specs.Entries.{entries}

abbrev pub standing : Records → List Record
standing b = take b.live b.records

-- tags, states and numbers of rows
abbrev pub outline_of : Records → List (Sheet ℕ)
outline_of b = entries (standing b)

-- the first of questions 1 to 8 that is answered no
abbrev pub refusal_by : Records → Call → Option Refusal
refusal_by b call = refusal_of b.capacity (outline_of b) call
