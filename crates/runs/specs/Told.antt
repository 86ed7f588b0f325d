-- What a run of a script tells: its three numbers, the lines that it writes, and the calls that it makes on its book.
use Rattle.std.specs.Prelude.{◌≡◌, ℕ, min, Bool, true, false, cond, List, [], ◌∷◌, length, take, drop}
use Rattle.std.specs.List.{flat_map}
use Rattle.monoid.specs.Meaning.{Meaning}
use Rattle.monoid.specs.Words.{Word}
use Rattle.records.specs.declared.records.Records.{Records}
use Rattle.cells.specs.declared.cell.Cell.{Cell}
use Rattle.calls.specs.declared.outcome.Outcome.{Outcome}
use Rattle.calls.specs.Runs.{WorkedThrough}
use Rattle.script.specs.Lines.{lines}
use Rattle.script.specs.Parts.{Bytes}
use Rattle.listing.specs.Answers.{answer_text, ended}
use Rattle.listing.specs.Listings.{lamps_by, answers_to, fitting, is_workable, run, numbers}
use Rattle.listing.specs.Outputs.{overwrite}
use Rattle.runs.specs.Scripted.{calls_said}

-- two answers to a line that differ in their lamps alone
pub record SameButLamps (t u : Bytes) : Type 0 where
  pub line : ℕ
  pub number : ℕ
  pub field : ℕ
  pub lamps : List Bool
  pub others : List Bool
  pub left_is : t ≡ answer_text line number field lamps
  pub right_is : u ≡ answer_text line number field others
  pub as_many : length lamps ≡ length others

-- under a lawful recogniser two answers are the same; under any other they are but for their lamps
abbrev pub Agree : Bool → Bytes → Bytes → Type 0
Agree true t u = t ≡ u
Agree false t u = SameButLamps t u

abbrev pub AllAgree : Bool → List Bytes → List Bytes → Type 0
AllAgree lawful [] [] = Unit {0}
AllAgree lawful [] (u ∷ us) = ⊥
AllAgree lawful (t ∷ ts) [] = ⊥
AllAgree lawful (t ∷ ts) (u ∷ us) = Agree lawful t u × AllAgree lawful ts us

-- the lines that a run of the script is to write
abbrev pub texts_due : (Word → List Bool) → ℕ → ℕ → Bytes → List Bytes
texts_due lamps capacity room script = cond (is_workable (length script)) (fitting room (answers_to lamps capacity script)) []

pub record Told {S E : Type 0} (meaning : S → Meaning E) (orderly : S → Type 0) (tally : S → ℕ) (script : Bytes) (x y : List (Cell E)) (s s' : S) (out out' : Bytes) (answer : ℕ × ℕ × ℕ) : Type 0 where
  -- the ending's number, the lines worked and the bytes written, whatever the recogniser is
  pub numbers_are : answer ≡ numbers (run (lamps_by (meaning s)) (min (length x) 4096) (length out) script)
  -- the lines written; every byte past them is as it was
  pub texts : List Bytes
  pub written : out' ≡ overwrite out 0 (flat_map ended texts)
  pub agree : (lawful : Bool) → (lawful ≡ true → orderly s) → AllAgree lawful texts (texts_due (lamps_by (meaning s)) (min (length x) 4096) (length out) script)
  -- the calls that the worked lines say were made, one after another, on a book of their own; of a script that is too long, none was
  pub ran : is_workable (length script) ≡ true → (book : Records) × (outcomes : List Outcome) × WorkedThrough meaning orderly tally x y s s' book (calls_said 0 (take answer.1 (lines script))) outcomes
  pub unworked : is_workable (length script) ≡ false → (y ≡ x) × (s' ≡ s)
  -- cells past the capacity are untouched, and the recogniser means what it meant
  pub outside : drop (min (length x) 4096) y ≡ drop (min (length x) 4096) x
  pub same : meaning s' ≡ meaning s
  pub order : orderly s → orderly s'
