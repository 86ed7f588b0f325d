-- A question changes nothing, and shows the lamps of the rows that it names.
use Rattle.std.proofs.Common.{◌≡◌, ℕ, ◌+◌, ◌%◌, ◌^◌, ◌≤◌, Bool, true, false, List, Some, None, Option, sym, refl, ap, ◌∙◌, inl, inr, arith}
use Rattle.std.proofs.lemmas.Bool.{cond-true, false≢true}
use Rattle.monoid.specs.Meaning.{Meaning}
use Rattle.monoid.specs.Words.{Word, image_of}
use Rattle.monoid.specs.Laws.{Shaped, Lawful}
use Rattle.monoid.specs.declared.lamps.Lamps.{Lamps}
use Rattle.monoid.specs.Lamps.{no_lamps, lamps_of}
use Rattle.monoid.proofs.Lighting.{verdicts_of, lamps_told}
use Rattle.plain.specs.declared.call.Call.{Call}
use Rattle.plain.specs.declared.call.Call.TheVariants.{Whole, Range, Recalculate}
use Rattle.plain.specs.Calls.{tag_of}
use Rattle.plain.specs.Sheets.{Sheet, rows_of}
use Rattle.plain.specs.Steps.{after}
use Rattle.plain.specs.Plain.{PlainBook, words, counts, refusal, unless, rows_named}
use Rattle.records.specs.declared.records.Records.{Records}
use Rattle.records.specs.Views.{outline_of, refusal_by}
use Rattle.cells.specs.declared.cell.Cell.{Cell}
use Rattle.cells.specs.Trees.{Tree, leaf}
use Rattle.cells.proofs.Lookup.{some_one, none-some}
use Rattle.changes.specs.Costs.{AsksNothing, is_edit, dearest}
use Rattle.changes.specs.Spared.{Spares}
use Rattle.calls.specs.declared.outcome.Outcome.{Outcome}
use Rattle.calls.specs.Models.{Model, plain_of}
use Rattle.calls.specs.Sound.{Sound}
use Rattle.calls.specs.Steps.{most_rows, asks_lamps, lamps_after, Step}
use Rattle.calls.specs.Ways.{Shows}
use Rattle.calls.specs.Calls.{Accepted, Called}
use Rattle.calls.proofs.Outlining.{refusal_same}

-- a call that asks for lamps, and leaves the sheets as they are
pub record Question (E : Type 0) (call : Call) : Type 0 where
  pub asks : asks_lamps call ≡ true
  pub book : (ss : PlainBook) → after words ss call ≡ ss
  pub outline : (ss : List (Sheet ℕ)) → after counts ss call ≡ ss
  pub edits : is_edit call ≡ false
  pub renews : (tag : ℕ) → call ≡ Recalculate tag → ⊥
  pub spares : (t u : Tree E) → Spares call t u

pub whole_asks : {E : Type 0} (tag : ℕ) → Question E (Whole tag)
whole_asks tag = record { asks = refl; book = λ ss. refl; outline = λ ss. refl; edits = refl; renews = λ t is. let z : ◌≡◌ {A = ℕ} 0 1 = cc in omega arith; spares = λ t u. tt }

pub range_asks : {E : Type 0} (tag first last : ℕ) → Question E (Range tag first last)
range_asks tag first last = record { asks = refl; book = λ ss. refl; outline = λ ss. refl; edits = refl; renews = λ t is. let z : ◌≡◌ {A = ℕ} 0 1 = cc in omega arith; spares = λ t u. tt }

-- on a sound book there is an image, and under a lawful recogniser it is that of the rows named, for so many products
pub record Finds {E : Type 0} (lawful : Bool) (m : Meaning E) (before : Model E) (call : Call) (image : Option E) (n : ℕ) : Type 0 where
  pub there : image ≡ None → ⊥
  pub is_image : lawful ≡ true → image ≡ Some (image_of m (rows_named (plain_of before) call))
  pub cheap : n ≤ dearest call (most_rows (plain_of before) (plain_of before) call)

module _ {S E : Type 0} (meaning : S → Meaning E) (orderly : S → Type 0) (b : Records) (x : List (Cell E)) (s s' : S) (call : Call) (n : ℕ) (r : Outcome) (question : Question E call) (accepted : refusal_by b call ≡ None) (same : meaning s' ≡ meaning s) (order : orderly s → orderly s') (shaped : Shaped (meaning s)) (laws : orderly s → Lawful (meaning s)) (kept : AsksNothing call → s' ≡ s) (free : AsksNothing call → n ≡ 0) where
  -- the step of a question whose image was found
  step_lit : (lawful : Bool) → (lawful ≡ true → orderly s) → (before : Model E) → Sound lawful (meaning s) b x before → (image : E) → Finds lawful (meaning s) before call (Some image) n → Shows meaning orderly s' (Some image) n r → Step lawful (meaning s) b.capacity before call r before
  step_lit lawful ordered before sound image finds shows =
      let m = meaning s in
      let book = plain_of before in
      let w : Word = rows_named book call in
      let none : r.refusal ≡ None = shows.0 in
      let asked : None ≡ refusal b.capacity book call = sym accepted ∙ refusal_same b before sound.said call in
      let lit : lamps_of m (image_of m w) ≡ lamps_after m book call r.refusal =
      sym (cond-true (asks_lamps call) (lamps_of m (image_of m w)) no_lamps question.asks) ∙ ap (lamps_after m book call) (sym none) in
      let told : lawful ≡ true → r.lamps ≡ lamps_of m (image_of m w) =
      (λ l. lamps_told (laws (ordered l)) same w image r.lamps (some_one (finds.is_image l)) (λ h. shows.3 (order (ordered l)) h)) in
      let count : r.count ≡ n = shows.1 in
      let cheap = finds.cheap in
      record {
        book_is = sym (question.book book) ∙ ap (λ o. unless o (after words book call) book) asked;
        answers = record {
          refusal_is = none ∙ asked;
          unbroken = λ broken. none-some (sym none ∙ broken);
          lamps_are = λ l. told l ∙ lit;
          verdicts = λ l e asks. verdicts_of shaped w r.lamps (told l);
          wide = shows.2 ∙ ap (λ (v : Meaning E). v.width) same ∙ ap (λ (l : Lamps). l.width) lit;
        };
        bounded = record { most = omega arith; quiet = λ e p. absurd (false≢true (sym question.edits ∙ e)) };
        leaves = record {
          declined = λ reason e. absurd (none-some (sym none ∙ e));
          others = λ tag h. refl;
          source = λ tag new is. refl;
          spared = λ e. question.spares (rows_of leaf (tag_of call) before) (rows_of leaf (tag_of call) before);
        };
        renewed = λ l e tag is. absurd (question.renews tag is);
      }

  module _ (tally : S → ℕ) (counted : tally s' ≡ (tally s + n) % 2 ^ 64) where
    -- what every call promises, of a question that is accepted
    pub asked_called : (image : Option E) → Shows meaning orderly s' image n r → ((lawful : Bool) → (lawful ≡ true → orderly s) → (before : Model E) → Sound lawful (meaning s) b x before → Finds lawful (meaning s) before call image n) → Called meaning orderly tally b b x x s s' call r
    asked_called image shows finds = record {
      declined = λ reason e. absurd (none-some (sym accepted ∙ e));
      accepted = λ e. answered image shows;
      capacity = refl;
      outside = refl;
      cells_kept = λ k. refl;
      records_kept = λ k. refl;
      recogniser_kept = kept;
      unasked = λ k. count_of image shows ∙ free k;
      same = same;
      order = order;
      counted = counts_up image shows;
      works = λ lawful ordered before sound. (before, by_image image shows lawful ordered before sound (finds lawful ordered before sound), sound);
    }
      where
        count_of : (image : Option E) → Shows meaning orderly s' image n r → r.count ≡ n
        count_of None dim = ap (λ (o : Outcome). o.count) dim
        count_of (Some image) lit = lit.1

        answered : (image : Option E) → Shows meaning orderly s' image n r → Accepted b b call r
        answered None dim = inr (ap (λ (o : Outcome). o.refusal) dim, refl, ap (λ (o : Outcome). o.lamps) dim)
        answered (Some image) lit = inl (lit.0, sym (question.outline (outline_of b)))

        counts_up : (image : Option E) → Shows meaning orderly s' image n r → tally s' ≡ (tally s + r.count) % 2 ^ 64
        counts_up image shows = counted ∙ ap (λ k. (tally s + k) % 2 ^ 64) (sym (count_of image shows))

        by_image : (image : Option E) → Shows meaning orderly s' image n r → (lawful : Bool) → (lawful ≡ true → orderly s) → (before : Model E) → Sound lawful (meaning s) b x before → Finds lawful (meaning s) before call image n → Step lawful (meaning s) b.capacity before call r before
        by_image None dim lawful ordered before sound found = absurd (found.there refl)
        by_image (Some image) lit lawful ordered before sound found = step_lit lawful ordered before sound image found lit
