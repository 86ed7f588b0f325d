-- The fields of an answer's text are those that it was written with, and its numbers are read back from them.
use Rattle.std.proofs.Common.{◌≡◌, ℕ, ◌^◌, ◌<◌, Bool, true, false, List, [], ◌∷◌, ◌++◌, map, get_or, decimal, sym, refl, ap, Some, Option, ◌∙◌, arith}
use Rattle.std.proofs.lemmas.Bool.{and_from}
use Rattle.std.proofs.lemmas.List.{append-nil}
use Rattle.std.specs.List.{list_all}
use Rattle.script.specs.Fields.{fields}
use Rattle.script.specs.Numbers.{read_on}
use Rattle.script.specs.Parts.{Bytes, is_free_of}
use Rattle.script.proofs.Decimals.{decimal_free, decimal_read}
use Rattle.script.proofs.Joining.{parted_joined}
use Rattle.script.specs.declared.fault.Fault.{Fault}
use Rattle.listing.specs.declared.answer.Answer.{Answer}
use Rattle.listing.specs.Answers.{lamp_digit, lamp_text, lamps_shown, answer_text, text_of}
use Rattle.listing.specs.Tells.{Tells, fault_with, fault_of_numbers, fault_read}

free_digits : (lamps : List Bool) → is_free_of 44 (map lamp_digit lamps) ≡ true
free_digits [] = refl
free_digits (true ∷ lamps) = free_digits lamps
free_digits (false ∷ lamps) = free_digits lamps

free_lamps : (lamps : List Bool) → is_free_of 44 (lamp_text lamps) ≡ true
free_lamps [] = refl
free_lamps (lit ∷ lamps) = free_digits (lit ∷ lamps)

module _ (line number field : ℕ) (lamps : List Bool) (small : line < 2 ^ 64) (small' : number < 2 ^ 64) (small'' : field < 2 ^ 64) where
  free : (n : ℕ) → n < 2 ^ 64 → is_free_of 44 (decimal n) ≡ true
  free n h = decimal_free 44 (omega arith) n h

  pub fields_written : fields (answer_text line number field lamps) ≡ decimal line ∷ (decimal number ∷ (decimal field ∷ (lamp_text lamps ∷ [])))
  fields_written =
      let last : Bytes = lamp_text lamps in
      ap (λ t. fields (decimal line ++ (44 ∷ (decimal number ++ (44 ∷ (decimal field ++ (44 ∷ t))))))) (sym (append-nil last))
      ∙ parted_joined 44 (decimal line) (decimal number ∷ (decimal field ∷ (last ∷ []))) (free line small)
      (and_from (is_free_of 44 (decimal number)) (list_all (is_free_of 44) (decimal field ∷ (last ∷ []))) (free number small')
      (and_from (is_free_of 44 (decimal field)) (list_all (is_free_of 44) (last ∷ [])) (free field small'')
      (and_from (is_free_of 44 last) true (free_lamps lamps) refl)))

  pub fault_written : fault_read (answer_text line number field lamps) ≡ fault_with line number field
  fault_written =
      let numbers : List Bytes → Option Fault = λ ps. fault_of_numbers (read_on 0 (get_or ps 0 [])) (read_on 0 (get_or ps 1 [])) (read_on 0 (get_or ps 2 [])) in
      ap numbers fields_written
      ∙ ap (λ o. fault_of_numbers o (read_on 0 (decimal number)) (read_on 0 (decimal field))) (decimal_read line small)
      ∙ ap (λ o. fault_of_numbers (Some line) o (read_on 0 (decimal field))) (decimal_read number small')
      ∙ ap (λ o. fault_of_numbers (Some line) (Some number) o) (decimal_read field small'')

pub tells : (a : Answer) → a.line < 2 ^ 64 → a.number < 2 ^ 64 → a.field < 2 ^ 64 → Tells (text_of a) a
tells a line number field =
    let parts = fields_written a.line a.number a.field (lamps_shown a.lamps) line number field in
    record {
      parts = parts;
      line = ap (λ ps. read_on 0 (get_or ps 0 [])) parts ∙ decimal_read a.line line;
      number = ap (λ ps. read_on 0 (get_or ps 1 [])) parts ∙ decimal_read a.number number;
      field = ap (λ ps. read_on 0 (get_or ps 2 [])) parts ∙ decimal_read a.field field;
      told = fault_written a.line a.number a.field (lamps_shown a.lamps) line number field;
    }
