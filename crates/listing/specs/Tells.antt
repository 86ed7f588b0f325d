-- What an answer tells: its fields are read back from its text, and from them the fault of the line with its place.
use Rattle.std.specs.Prelude.{◌≡◌, ℕ, [], ◌∷◌, decimal, Some, None, Option}
use Rattle.std.specs.Option.{option_map}
use Rattle.script.specs.Faults.{cause_of, fault}
use Rattle.script.specs.Fields.{fields, field_at}
use Rattle.script.specs.Numbers.{read_on}
use Rattle.script.specs.Parts.{Bytes}
use Rattle.script.specs.declared.fault.Fault.{Fault}
use Rattle.listing.specs.declared.answer.Answer.{Answer}
use Rattle.listing.specs.Answers.{lamp_text, lamps_shown}

-- the number that a field of a text writes, in any number of digits
abbrev pub number_in : Bytes → ℕ → Option ℕ
number_in text place = read_on 0 (field_at text place)

-- the fault with a number, its line and its field; none, where it is the number of none
abbrev pub fault_with : ℕ → ℕ → ℕ → Option Fault
fault_with line number field = option_map (λ cause. fault cause line field) (cause_of number)

-- the fault that an answer tells, and that its text tells
abbrev pub fault_told : Answer → Option Fault
fault_told answer = fault_with answer.line answer.number answer.field

abbrev pub fault_of_numbers : Option ℕ → Option ℕ → Option ℕ → Option Fault
fault_of_numbers (Some line) (Some number) (Some field) = fault_with line number field
fault_of_numbers (Some line) (Some number) None = None
fault_of_numbers (Some line) None field = None
fault_of_numbers None number field = None

abbrev pub fault_read : Bytes → Option Fault
fault_read text = fault_of_numbers (number_in text 1) (number_in text 2) (number_in text 3)

-- a text tells an answer: its four fields are the answer's, and read back they are its numbers
pub record Tells (text : Bytes) (answer : Answer) : Type 0 where
  pub parts : fields text ≡ decimal answer.line ∷ (decimal answer.number ∷ (decimal answer.field ∷ (lamp_text (lamps_shown answer.lamps) ∷ [])))
  pub line : number_in text 1 ≡ Some answer.line
  pub number : number_in text 2 ≡ Some answer.number
  pub field : number_in text 3 ≡ Some answer.field
  -- so the fault of the line is read back, with its cause and its place
  pub told : fault_read text ≡ fault_told answer
