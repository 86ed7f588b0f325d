-- The lamps that an answer shows are those of the plain book.
use Rattle.std.proofs.Common.{◌≡◌, ℕ, min, Bool, true, false, cond, List, [], length, Some, None, Option, Err, Ok, sym, refl, ap, ◌∙◌, subst}
use Rattle.monoid.specs.Meaning.{Meaning}
use Rattle.monoid.specs.Laws.{Shaped}
use Rattle.monoid.specs.Lamps.{no_lamps, lamps_of}
use Rattle.monoid.specs.Words.{Word, image_of}
use Rattle.monoid.specs.declared.lamps.Lamps.{Lamps}
use Rattle.plain.specs.declared.call.Call.{Call}
use Rattle.plain.specs.Forms.{Shows, nothing, form, shows_of}
use Rattle.plain.specs.declared.refusal.Refusal.{Refusal}
use Rattle.plain.specs.Refusals.{number_of}
use Rattle.plain.specs.Plain.{PlainBook, refusal, unless, rows_named}
use Rattle.calls.specs.Steps.{shows_lamps, lamps_after}
use Rattle.script.specs.Parts.{Bytes}
use Rattle.script.specs.declared.fault.Fault.{Fault}
use Rattle.script.specs.Faults.{cause_number}
use Rattle.listing.specs.Answers.{answer_text, lamps_shown, text_of, answer_to}
use Rattle.listing.specs.Listings.{lamps_by, shown_of, shown, answered}
use Rattle.listing.proofs.Running.{shown_by}
use Rattle.listing.proofs.Texts.{length-shown}
use Rattle.runs.specs.Answers.{lamps_or_refusal}
use Rattle.runs.specs.Told.{Agree}

-- an accepted call shows the lamps of its rows, or none
shown-effect : {E : Type 0} (m : Meaning E) → Shaped m → (shows : Shows) (w : Word) → shown_of (lamps_by m) shows w ≡ lamps_shown (cond (shows_lamps shows) (lamps_of m (image_of m w)) no_lamps)
shown-effect m shaped nothing w = refl
shown-effect m shaped _ w = sym (shown_by m (image_of m w) shaped)

-- the plain book's answer shows the lamps of the rows named, and none where the call is refused
shown-after : {E : Type 0} (m : Meaning E) → Shaped m → (book : PlainBook) (refused : Option Refusal) (call : Call) → unless refused (shown (lamps_by m) book call) [] ≡ lamps_shown (lamps_after m book call refused)
shown-after m shaped book (Some reason) call = refl
shown-after m shaped book None call = shown-effect m shaped (shows_of (form call).effect) (rows_named book call)

-- texts that have their lamps from the same place agree where the lamps do
agrees_by : (lawful : Bool) (line number field : ℕ) (lamps others : List Bool) → (lawful ≡ true → lamps ≡ others) → length lamps ≡ length others → Agree lawful (answer_text line number field lamps) (answer_text line number field others)
agrees_by true line number field lamps others same many = ap (answer_text line number field) (same refl)
agrees_by false line number field lamps others same many = record {
  line = line;
  number = number;
  field = field;
  lamps = lamps;
  others = others;
  left_is = refl;
  right_is = refl;
  as_many = many;
}

-- the lamps that are shown of an outcome
abbrev told : Option Refusal → Lamps → Lamps
told refused lamps = unless refused lamps no_lamps

-- the text of an outcome: its number and the lamps that are shown
text_told : (line : ℕ) (refused : Option Refusal) (lamps : Lamps) → text_of (answer_to line (lamps_or_refusal line refused lamps)) ≡ answer_text line (number_of refused) 0 (lamps_shown (told refused lamps))
text_told line None lamps = refl
text_told line (Some reason) lamps = refl

module _ {E : Type 0} (m : Meaning E) (book : PlainBook) where
  -- they are those that the plain book names, where the outcome's lamps are
  told_after : (call : Call) (refused : Option Refusal) (lamps : Lamps) → lamps ≡ lamps_after m book call refused → told refused lamps ≡ lamps_after m book call refused
  told_after call None lamps e = e
  told_after call (Some reason) lamps e = refl

  -- and as many, where the outcome's lamps are as many
  told_width : (call : Call) (refused : Option Refusal) (lamps : Lamps) → lamps.width ≡ (lamps_after m book call refused).width → (told refused lamps).width ≡ (lamps_after m book call refused).width
  told_width call None lamps e = e
  told_width call (Some reason) lamps e = refl

  -- the answer to a call is the plain book's, and its lamps are those under a lawful recogniser, and as many under any other
  pub call_agrees : Shaped m → (capacity line : ℕ) (lawful : Bool) (call : Call) (refused : Option Refusal) (lamps : Lamps)
      → refused ≡ refusal capacity book call
      → (lawful ≡ true → lamps ≡ lamps_after m book call refused)
      → lamps.width ≡ (lamps_after m book call refused).width
      → Agree lawful (text_of (answer_to line (lamps_or_refusal line refused lamps))) (answered (lamps_by m) capacity line book (Ok call))
  call_agrees shaped capacity line lawful call refused lamps is same wide =
      let due : answered (lamps_by m) capacity line book (Ok call) ≡ answer_text line (number_of refused) 0 (lamps_shown (lamps_after m book call refused)) =
      ap (λ (f : Option Refusal). answer_text line (number_of f) 0 (unless f (shown (lamps_by m) book call) [])) (sym is)
      ∙ ap (answer_text line (number_of refused) 0) (shown-after m shaped book refused call) in
      let many : length (lamps_shown (told refused lamps)) ≡ length (lamps_shown (lamps_after m book call refused)) =
      length-shown (told refused lamps) ∙ ap (λ n. min n 16) (told_width call refused lamps wide) ∙ sym (length-shown (lamps_after m book call refused)) in
      subst (λ (t : Bytes). Agree lawful t (answered (lamps_by m) capacity line book (Ok call))) (sym (text_told line refused lamps))
      (subst (λ (u : Bytes). Agree lawful (answer_text line (number_of refused) 0 (lamps_shown (told refused lamps))) u) (sym due)
      (agrees_by lawful line (number_of refused) 0 (lamps_shown (told refused lamps)) (lamps_shown (lamps_after m book call refused)) (λ law. ap lamps_shown (told_after call refused lamps (same law))) many))

  -- the answer to a fault tells that fault, whatever the book is
  pub fault_agrees : (capacity line : ℕ) (lawful : Bool) (e : Fault) → Agree lawful (text_of (answer_to line (Err e))) (answered (lamps_by m) capacity line book (Err e))
  fault_agrees capacity line lawful e = agrees_by lawful e.line (cause_number e.cause) e.field [] [] (λ law. refl) refl
