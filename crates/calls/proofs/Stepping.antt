-- An accepted call that shows no lamps is a step beside the plain book.
use Rattle.std.proofs.Common.{◌≡◌, ℕ, ◌≤◌, Bool, true, false, cond, ◌||◌, eqb, List, [], ◌∷◌, ◌++◌, Some, None, Option, sym, refl, ap, ◌∙◌, arith}
use Rattle.std.proofs.lemmas.Bool.{or_parts, cond-false, eqb-true, false≢true}
use Rattle.monoid.specs.Meaning.{Meaning}
use Rattle.monoid.specs.Words.{image_of}
use Rattle.monoid.specs.declared.lamps.Lamps.{Lamps}
use Rattle.monoid.specs.Lamps.{no_lamps, lamps_of}
use Rattle.plain.specs.declared.state.State.TheVariants.{Settled, Paused}
use Rattle.plain.specs.declared.call.Call.{Call}
use Rattle.plain.specs.declared.call.Call.TheVariants.{Open, Copy, Rename, Close, Insert, Strike, Replace, Pause, Recalculate}
use Rattle.plain.specs.declared.refusal.Refusal.{Refusal}
use Rattle.plain.specs.Calls.{tag_of}
use Rattle.plain.specs.Sheets.{Sheet, fresh, retagged, restated, edited, is_paused, such, named, rows_of, altered, without}
use Rattle.plain.specs.Lawful.{tagged}
use Rattle.plain.specs.Steps.{Rows, copies_of, after}
use Rattle.plain.specs.Plain.{PlainBook, words, refusal, next, unless, rows_named}
use Rattle.plain.proofs.Mapping.{CarriesAt, after_map_at}
use Rattle.records.specs.declared.records.Records.{Records}
use Rattle.cells.specs.declared.cell.Cell.{Cell}
use Rattle.cells.specs.Trees.{Tree, leaf, rows}
use Rattle.cells.specs.Truth.{True}
use Rattle.cells.proofs.Lookup.{none-some}
use Rattle.changes.specs.Costs.{is_edit, dearest}
use Rattle.changes.specs.Spared.{Spares}
use Rattle.records.specs.Views.{refusal_by}
use Rattle.calls.specs.Models.{Model, plain_of, with_tree}
use Rattle.calls.specs.Sound.{Sound}
use Rattle.plain.specs.Forms.{inserts, strikes, replaces}
use Rattle.plain.specs.Calls.{names}
use Rattle.calls.specs.Steps.{sheet_at, most_rows, asks_lamps, lamps_after, Step}
use Rattle.calls.specs.Ways.{dark}
use Rattle.calls.proofs.Outlining.{refusal_same, model_tagged}
use Rattle.calls.proofs.Finding.{stands-named}

module _ {X : Type 0} (tag : ℕ) where
  -- sheets behind, none of which has the tag
  sheet_before : (ss ts : List (Sheet X)) → sheet_at tag ts ≡ None → sheet_at tag (ss ++ ts) ≡ sheet_at tag ss
  sheet_before [] ts none = none
  sheet_before (s ∷ ss) ts none = ap (cond (eqb s.tag tag) (Some s)) (sheet_before ss ts none)

  -- sheets behind one that has the tag
  sheet_stands : (ss ts : List (Sheet X)) → named tag ss ≡ true → sheet_at tag (ss ++ ts) ≡ sheet_at tag ss
  sheet_stands [] ts stands = absurd (false≢true stands)
  sheet_stands (s ∷ ss) ts stands = go (eqb s.tag tag) stands (sheet_stands ss ts)
    where
      go : (b : Bool) → (b || named tag ss) ≡ true → (named tag ss ≡ true → sheet_at tag (ss ++ ts) ≡ sheet_at tag ss) → cond b (Some s) (sheet_at tag (ss ++ ts)) ≡ cond b (Some s) (sheet_at tag ss)
      go true here rest = refl
      go false here rest = rest here

  -- a sheet of another tag
  sheet_none : (s : Sheet X) → eqb s.tag tag ≡ false → sheet_at tag (s ∷ []) ≡ None
  sheet_none s other = cond-false (eqb s.tag tag) (Some s) None other

  sheet_copied : (rows : Rows X) (from new : ℕ) (ss : List (Sheet X)) → eqb new tag ≡ false → sheet_at tag (copies_of rows from new ss) ≡ None
  sheet_copied rows from new [] other = refl
  sheet_copied rows from new (s ∷ ss) other = go (eqb s.tag from) (sheet_copied rows from new ss other)
    where
      go : (b : Bool) → sheet_at tag (copies_of rows from new ss) ≡ None → sheet_at tag (cond b (fresh new (rows.copy s.rows) ∷ []) (copies_of rows from new ss)) ≡ None
      go true rest = sheet_none (fresh new (rows.copy s.rows)) other
      go false rest = rest

  -- a sheet of another tag changed, whose tag does not become this one
  sheet_altered : (changed : ℕ) (f : Sheet X → Sheet X) → eqb changed tag ≡ false → ((s : Sheet X) → eqb s.tag tag ≡ false → eqb (f s).tag tag ≡ false) → (ss : List (Sheet X)) → sheet_at tag (altered changed f ss) ≡ sheet_at tag ss
  sheet_altered changed f other away [] = refl
  sheet_altered changed f other away (s ∷ ss) = go (eqb s.tag changed) refl (sheet_altered changed f other away ss)
    where
      go : (b : Bool) → eqb s.tag changed ≡ b → sheet_at tag (altered changed f ss) ≡ sheet_at tag ss → cond (eqb (cond b (f s) s).tag tag) (Some (cond b (f s) s)) (sheet_at tag (altered changed f ss)) ≡ cond (eqb s.tag tag) (Some s) (sheet_at tag ss)
      go true here rest =
          let apart : eqb s.tag tag ≡ false = ap (λ t. eqb t tag) (eqb-true s.tag changed here) ∙ other in
          cond-false (eqb (f s).tag tag) (Some (f s)) (sheet_at tag (altered changed f ss)) (away s apart) ∙ rest ∙ sym (cond-false (eqb s.tag tag) (Some s) (sheet_at tag ss) apart)
      go false here rest = ap (cond (eqb s.tag tag) (Some s)) rest

  -- a sheet of another tag taken out
  sheet_without : (gone : ℕ) → eqb gone tag ≡ false → (ss : List (Sheet X)) → sheet_at tag (without gone ss) ≡ sheet_at tag ss
  sheet_without gone other [] = refl
  sheet_without gone other (s ∷ ss) = go (eqb s.tag gone) refl (sheet_without gone other ss)
    where
      go : (b : Bool) → eqb s.tag gone ≡ b → sheet_at tag (without gone ss) ≡ sheet_at tag ss → sheet_at tag (cond b (without gone ss) (s ∷ without gone ss)) ≡ cond (eqb s.tag tag) (Some s) (sheet_at tag ss)
      go true here rest = rest ∙ sym (cond-false (eqb s.tag tag) (Some s) (sheet_at tag ss) (ap (λ t. eqb t tag) (eqb-true s.tag gone here) ∙ other))
      go false here rest = ap (cond (eqb s.tag tag) (Some s)) rest

  -- the sheet of a tag that the call does not name is the same
  pub others_same : (rows : Rows X) (ss : List (Sheet X)) (call : Call) → names call tag ≡ false → sheet_at tag (after rows ss call) ≡ sheet_at tag ss
  others_same rows ss (Open own) other = sheet_before ss (fresh own rows.none ∷ []) (sheet_none (fresh own rows.none) other)
  others_same rows ss (Copy own new) other = sheet_before ss (copies_of rows own new ss) (sheet_copied rows own new ss (or_parts (eqb own tag) (eqb new tag) other).1)
  others_same rows ss (Rename own new) other =
      let parts = or_parts (eqb own tag) (eqb new tag) other in
      sheet_altered own (retagged new) parts.0 (λ s apart. parts.1) ss
  others_same rows ss (Close own) other = sheet_without own other ss
  others_same rows ss (Insert own row kind) other = sheet_altered own (edited (rows.edit (inserts row kind))) other (λ s apart. apart) ss
  others_same rows ss (Strike own row) other = sheet_altered own (edited (rows.edit (strikes row))) other (λ s apart. apart) ss
  others_same rows ss (Replace own row kind) other = sheet_altered own (edited (rows.edit (replaces row kind))) other (λ s apart. apart) ss
  others_same rows ss (Pause own) other = sheet_altered own (restated Paused) other (λ s apart. apart) ss
  others_same rows ss (Recalculate own) other = sheet_altered own (λ s. restated Settled (edited rows.renew s)) other (λ s apart. apart) ss
  others_same rows ss _ other = refl

-- the sheet that is copied stands as it stood
source_same : {X : Type 0} (rows : Rows X) (ss : List (Sheet X)) (call : Call) → ((copy : Unit {0}) → named (tag_of call) ss ≡ true) → (tag new : ℕ) → call ≡ Copy tag new → sheet_at tag (after rows ss call) ≡ sheet_at tag ss
source_same rows ss call stands tag new is =
    ap (λ c. sheet_at tag (after rows ss c)) is ∙ sheet_stands tag ss (copies_of rows tag new ss) (ap (λ c. named (tag_of c) ss) (sym is) ∙ stands tt)

copied_not_opened : (tag new opened : ℕ) → Copy tag new ≡ Open opened → ⊥
copied_not_opened tag new opened e = let z : ◌≡◌ {A = ℕ} 0 1 = cc in omega arith

-- where an accepted call does the same to the tree of its sheet as to the word, it does the same to the book as to the plain book
pub book_after : {E : Type 0} (capacity : ℕ) (before : Model E) (call : Call) (u : Tree E) → tagged before ≡ true → refusal capacity (plain_of before) call ≡ None → CarriesAt (with_tree u) words rows call (rows_of leaf (tag_of call) before) → plain_of (after (with_tree u) before call) ≡ next capacity (plain_of before) call
book_after capacity before call u distinct accepted carries =
    after_map_at (with_tree u) words rows before distinct call leaf carries
    ∙ ap (λ o. unless o (after words (plain_of before) call) (plain_of before)) (sym accepted)

-- no lamps where none are asked for
pub lamps_dark : {E : Type 0} (m : Meaning E) (book : PlainBook) (call : Call) (o : Option Refusal) → asks_lamps call ≡ false → no_lamps ≡ lamps_after m book call o
lamps_dark m book call None quiet = sym (cond-false (asks_lamps call) (lamps_of m (image_of m (rows_named book call))) no_lamps quiet)
lamps_dark m book call (Some reason) quiet = refl

-- the step of an accepted call that shows no lamps, for so many products, to the book where the sheet that is changed or made has a given tree
pub step-dark : {E : Type 0} (lawful : Bool) (m : Meaning E) (b : Records) (x : List (Cell E)) (before : Model E) (call : Call) (u : Tree E) (n : ℕ)
    → Sound lawful m b x before
    → refusal_by b call ≡ None
    → asks_lamps call ≡ false
    → CarriesAt (with_tree u) words rows call (rows_of leaf (tag_of call) before)
    → n ≤ dearest call (most_rows (plain_of before) (plain_of (after (with_tree u) before call)) call)
    → (is_edit call ≡ true → such is_paused (tag_of call) before ≡ true → n ≡ 0)
    → Spares call (rows_of leaf (tag_of call) before) (rows_of leaf (tag_of call) (after (with_tree u) before call))
    → (lawful ≡ true → (tag : ℕ) → call ≡ Recalculate tag → True m (rows_of leaf tag (after (with_tree u) before call)))
    → Step lawful m b.capacity before call (dark None n) (after (with_tree u) before call)
step-dark lawful m b x before call u n sound accepted none carries cheap calm spares renewed =
    let same = refusal_same b before sound.said call in
    let lamps = lamps_dark m (plain_of before) call None none in
    record {
      book_is = book_after b.capacity before call u (model_tagged b before sound.said) (sym same ∙ accepted) carries;
      answers = record {
        refusal_is = sym accepted ∙ same;
        unbroken = none-some;
        lamps_are = λ l. lamps;
        verdicts = λ l e asks. absurd (false≢true (sym none ∙ asks));
        wide = ap (λ (l : Lamps). l.width) lamps;
      };
      bounded = record { most = cheap; quiet = calm };
      leaves = record {
        declined = λ reason e. absurd (none-some e);
        others = λ tag other. others_same tag (with_tree u) before call other;
        source = λ tag new is. source_same (with_tree u) before call (λ copy. stands-named sound call (λ opened open_is. copied_not_opened tag new opened (sym is ∙ open_is)) accepted) tag new is;
        spared = λ e. spares;
      };
      renewed = λ l e tag is. renewed l tag is;
    }
