-- The laws of a listing.
use Rattle.std.proofs.Common.{◌≡◌, ℕ, zero, suc, ◌+◌, ◌-◌, ◌<◌, Bool, true, false, List, [], ◌∷◌, length, get_or, take, Ok, Err, Result, sym, refl, ap, ◌∙◌, ⊎_elim, add-one, arith}
use Rattle.std.proofs.lemmas.Bool.{cases_Bool, cond-true, cond-false, cond_both}
use Rattle.std.specs.List.{flat_map}
use Rattle.monoid.specs.Words.{Word}
use Rattle.plain.specs.Plain.{PlainBook, number, refusal, unless}
use Rattle.plain.specs.declared.call.Call.{Call}
use Rattle.script.specs.Said.{said}
use Rattle.script.specs.Faults.{cause_number}
use Rattle.script.specs.Lines.{lines}
use Rattle.script.specs.Parts.{Bytes}
use Rattle.script.specs.declared.fault.Fault.{Fault}
use Rattle.script.proofs.Placing.{placed}
use Rattle.listing.specs.declared.ending.Ending.TheVariants.{Complete, OutputFull}
use Rattle.listing.specs.Answers.{ended}
use Rattle.listing.specs.Listed.{Listed}
use Rattle.listing.specs.Listings.{shown, answered, answers, answers_to, book_after, book_through, fitting, ending}
use Rattle.listing.specs.Outputs.{has_room}
use Rattle.listing.specs.Tells.{fault_read}
use Rattle.listing.proofs.Explaining.{told_answered}
use Rattle.listing.proofs.Unbroken.{Unbroken, unbroken_answer, lines-ended}

-- the book after one line more
book_at : (capacity k done n : ℕ) (book : PlainBook) (ls : List Bytes) → n ≡ done + (k + 1) → k < length ls
    → book_through capacity done book (take (suc k) ls) ≡ book_after capacity (book_through capacity done book (take k ls)) (said n (get_or ls k []))
book_at capacity k done n book [] is h = absurd (omega arith)
book_at capacity zero done n book (l ∷ ls) is h = let first : done + 1 ≡ n = omega arith in ap (λ m. book_after capacity book (said m l)) first
book_at capacity (suc k) done n book (l ∷ ls) is h = book_at capacity k (done + 1) n (book_after capacity book (said (done + 1) l)) ls (omega arith) (omega arith)

abbrev AllUnbroken : List Bytes → Type 0
AllUnbroken [] = Unit {0}
AllUnbroken (text ∷ texts) = Unbroken text × AllUnbroken texts

module _ (lamps : Word → List Bool) (capacity : ℕ) where
  length-answers : (done : ℕ) (book : PlainBook) (ls : List Bytes) → length (answers lamps capacity done book ls) ≡ length ls
  length-answers done book [] = refl
  length-answers done book (l ∷ ls) = ap suc (length-answers (done + 1) (book_after capacity book (said (done + 1) l)) ls)

  answer_at : (k done n : ℕ) (book : PlainBook) (ls : List Bytes) → n ≡ done + (k + 1) → k < length ls
      → get_or (answers lamps capacity done book ls) k [] ≡ answered lamps capacity n (book_through capacity done book (take k ls)) (said n (get_or ls k []))
  answer_at k done n book [] is h = absurd (omega arith)
  answer_at zero done n book (l ∷ ls) is h = let first : done + 1 ≡ n = omega arith in ap (λ m. answered lamps capacity m book (said m l)) first
  answer_at (suc k) done n book (l ∷ ls) is h = answer_at k (done + 1) n (book_after capacity book (said (done + 1) l)) ls (omega arith) (omega arith)

  -- the first answers are those to the first lines
  take-answers : (k done : ℕ) (book : PlainBook) (ls : List Bytes) → take k (answers lamps capacity done book ls) ≡ answers lamps capacity done book (take k ls)
  take-answers zero done book ls = refl
  take-answers (suc k) done book [] = refl
  take-answers (suc k) done book (l ∷ ls) =
      ap (λ texts. answered lamps capacity (done + 1) book (said (done + 1) l) ∷ texts) (take-answers k (done + 1) (book_after capacity book (said (done + 1) l)) ls)

  unbroken_answered : (line : ℕ) (book : PlainBook) (r : Result Call Fault) → Unbroken (answered lamps capacity line book r)
  unbroken_answered line book (Ok call) = unbroken_answer line (number capacity book call) 0 (unless (refusal capacity book call) (shown lamps book call) [])
  unbroken_answered line book (Err fault) = unbroken_answer fault.line (cause_number fault.cause) fault.field []

  unbroken_answers : (done : ℕ) (book : PlainBook) (ls : List Bytes) → AllUnbroken (answers lamps capacity done book ls)
  unbroken_answers done book [] = tt
  unbroken_answers done book (l ∷ ls) = (unbroken_answered (done + 1) book (said (done + 1) l), unbroken_answers (done + 1) (book_after capacity book (said (done + 1) l)) ls)

-- the lines of the output are the texts that found room
lines_written : (room : ℕ) (texts : List Bytes) → AllUnbroken texts → lines (flat_map ended (fitting room texts)) ≡ fitting room texts
lines_written room [] h = refl
lines_written room (text ∷ texts) h =
    let rest : List Bytes = fitting (room - length (ended text)) texts in
    cond_both (has_room room) (text ∷ rest) [] (λ ts. lines (flat_map ended ts) ≡ ts)
    (λ e. lines-ended text (flat_map ended rest) h.0 ∙ ap (λ ts. text ∷ ts) (lines_written (room - length (ended text)) texts h.1))
    (λ e. refl)

fitting_all : (room : ℕ) (texts : List Bytes) → ending room texts ≡ Complete → fitting room texts ≡ texts
fitting_all room [] e = refl
fitting_all room (text ∷ texts) e =
    let less : ℕ = room - length (ended text) in
    ⊎_elim
    (λ (yes' : has_room room ≡ true).
    cond-true (has_room room) (text ∷ fitting less texts) [] yes'
    ∙ ap (λ ts. text ∷ ts) (fitting_all less texts (sym (cond-true (has_room room) (ending less texts) OutputFull yes') ∙ e)))
    (λ (no' : has_room room ≡ false).
    let full : OutputFull ≡ Complete = sym (cond-false (has_room room) (ending less texts) OutputFull no') ∙ e in
    let z : ◌≡◌ {A = ℕ} 0 1 = cc in
    absurd (omega arith))
    (cases_Bool (has_room room))

pub fitting_first : (room : ℕ) (texts : List Bytes) → fitting room texts ≡ take (length (fitting room texts)) texts
fitting_first room [] = refl
fitting_first room (text ∷ texts) =
    let less : ℕ = room - length (ended text) in
    cond_both (has_room room) (text ∷ fitting less texts) [] (λ ts. ts ≡ take (length ts) (text ∷ texts))
    (λ e. ap (λ ts. text ∷ ts) (fitting_first less texts))
    (λ e. refl)

pub listed : (script : Bytes) → Listed script
listed script =
    record {
      one_each = λ lamps capacity. length-answers lamps capacity 0 [] (lines script);
      in_order = λ lamps capacity k low. answer_at lamps capacity k 0 (k + 1) [] (lines script) (omega arith) low;
      told = λ lamps capacity k low small.
          let line : Bytes = get_or (lines script) k [] in
          let book : PlainBook = book_through capacity 0 [] (take k (lines script)) in
          ap fault_read (answer_at lamps capacity k 0 (k + 1) [] (lines script) (omega arith) low)
          ∙ told_answered lamps capacity (k + 1) book (said (k + 1) line) (omega arith) (placed (k + 1) line (said (k + 1) line) refl);
      written = λ lamps capacity room. lines_written room (answers_to lamps capacity script) (unbroken_answers lamps capacity 0 [] (lines script));
      complete = λ lamps capacity room e. fitting_all room (answers_to lamps capacity script) e;
      stopped = λ lamps capacity room. fitting_first room (answers_to lamps capacity script);
      kept = λ capacity k fault low e.
          ap (λ n. book_through capacity 0 [] (take n (lines script))) (add-one k)
          ∙ book_at capacity k 0 (k + 1) [] (lines script) (omega arith) low
          ∙ ap (book_after capacity (book_through capacity 0 [] (take k (lines script)))) e;
      agreed = λ lamps capacity k other e.
          take-answers lamps capacity k 0 [] (lines script) ∙ ap (answers lamps capacity 0 []) e ∙ sym (take-answers lamps capacity k 0 [] (lines other));
    }
