-- The answer to a line: `LINE,NUMBER,FIELD,LAMPS`, and byte 10.
use Rattle.std.specs.Prelude.{ℕ, min, Bool, true, false, List, [], ◌∷◌, ◌++◌, map, Ok, Err, decimal, Result}
use Rattle.std.specs.List.{range_with_len}
use Rattle.monoid.specs.Lamps.{no_lamps, lights}
use Rattle.monoid.specs.declared.lamps.Lamps.{Lamps}
use Rattle.script.specs.Faults.{cause_number}
use Rattle.script.specs.Fields.{comma}
use Rattle.script.specs.Lines.{newline}
use Rattle.script.specs.Parts.{Bytes}
use Rattle.script.specs.declared.fault.Fault.{Fault}
use Rattle.listing.specs.declared.answer.Answer.{Answer}

-- 1 for a lamp that is lit, 0 for one that is not
abbrev pub lamp_digit : Bool → ℕ
lamp_digit true = 49
lamp_digit false = 48

-- one digit for each lamp, or `-` where there are none
abbrev pub lamp_text : List Bool → Bytes
lamp_text [] = 45 ∷ []
lamp_text (lit ∷ lamps) = map lamp_digit (lit ∷ lamps)

abbrev pub answer_text : ℕ → ℕ → ℕ → List Bool → Bytes
answer_text line number field lamps = decimal line ++ (comma ∷ (decimal number ++ (comma ∷ (decimal field ++ (comma ∷ lamp_text lamps)))))

-- a text, and the byte that ends its line
abbrev pub ended : Bytes → Bytes
ended text = text ++ (newline ∷ [])

-- the lamps from lamp 0
abbrev pub lamps_shown : Lamps → List Bool
lamps_shown lamps = map (lights lamps) (range_with_len 0 (min lamps.width 16))

abbrev pub text_of : Answer → Bytes
text_of a = answer_text a.line a.number a.field (lamps_shown a.lamps)

abbrev pub bytes_of : Answer → Bytes
bytes_of a = ended (text_of a)

-- a fault's cause, line and field all stand in its answer
abbrev pub answer_to : ℕ → Result Lamps Fault → Answer
answer_to line (Ok lamps) = record { line = line; number = 0; field = 0; lamps = lamps }
answer_to line (Err fault) = record { line = fault.line; number = cause_number fault.cause; field = fault.field; lamps = no_lamps }
