-- An accepted call leaves lawful sheets lawful.
use Rattle.std.proofs.Common.{◌≡◌, ℕ, ◌+◌, ◌-◌, ◌≤◌, Bool, true, false, cond, not, ◌&&◌, ◌||◌, eqb, ltb, leb, List, [], ◌∷◌, ◌++◌, length, None, refl, ap, ◌∙◌, arith}
use Rattle.std.proofs.lemmas.Bool.{and_parts, and_from, leb-true, le-leb, not-true, cond_both, false≢true}
use Rattle.plain.specs.declared.state.State.TheVariants.{Settled, Paused}
use Rattle.plain.specs.declared.call.Call.{Call}
use Rattle.plain.specs.declared.call.Call.TheVariants.{Open, Copy, Rename, Close, Insert, Strike, Replace, Pause, Recalculate}
use Rattle.plain.specs.declared.refusal.Refusal.TheVariants.{TagOutOfRange, NoSuchSheet, TagInUse, TooManySheets, NotSettled, RowOutOfRange, NoRoom}
use Rattle.plain.specs.Forms.{inserts, strikes, replaces}
use Rattle.plain.specs.Sheets.{Sheet, fresh, retagged, restated, edited, is_settled, named, such, rows_of, altered, without, total}
use Rattle.plain.specs.Questions.{is_tag, is_row, refusal_of}
use Rattle.plain.specs.Lawful.{tagged, lawful}
use Rattle.plain.specs.Steps.{Rows, copies_of, after}
use Rattle.plain.specs.Plain.{counts}
use Rattle.plain.proofs.Asking.{passed}
use Rattle.plain.proofs.Tags.{tagged-append, tagged-altered, tagged-retagged, tagged-without}
use Rattle.plain.proofs.Totals.{total-append, total-altered, total_grown, total-without}

-- the sheet of a tag that stands, once more
pub copies-found : {X : Type 0} (rows : Rows X) (tag new : ℕ) (d : X) (ss : List (Sheet X)) → named tag ss ≡ true → copies_of rows tag new ss ≡ fresh new (rows.copy (rows_of d tag ss)) ∷ []
copies-found rows tag new d [] h = absurd (false≢true h)
copies-found {X} rows tag new d (s ∷ ss) h = go (eqb s.tag tag) h (copies-found rows tag new d ss)
  where
    go : (b : Bool) → (b || named tag ss) ≡ true → (named tag ss ≡ true → copies_of rows tag new ss ≡ fresh new (rows.copy (rows_of d tag ss)) ∷ []) → cond b (fresh new (rows.copy s.rows) ∷ []) (copies_of rows tag new ss) ≡ fresh new (rows.copy (cond b s.rows (rows_of d tag ss))) ∷ []
    go true here rest = refl
    go false here rest = rest here

module _ (capacity : ℕ) (ss : List (Sheet ℕ)) (h : lawful capacity ss ≡ true) where
  tags : tagged ss ≡ true
  tags = (and_parts (tagged ss) (leb (total ss) capacity) h).0

  room : total ss ≤ capacity
  room = leb-true (total ss) capacity (and_parts (tagged ss) (leb (total ss) capacity) h).1

  both : (after' : List (Sheet ℕ)) → tagged after' ≡ true → total after' ≤ capacity → lawful capacity after' ≡ true
  both after' t r = and_from (tagged after') (leb (total after') capacity) t (le-leb (total after') capacity r)

  -- a sheet more
  appended : (tag n : ℕ) → is_tag tag ≡ true → not (named tag ss) ≡ true → total ss + n ≤ capacity → lawful capacity (ss ++ (fresh tag n ∷ [])) ≡ true
  appended tag n fits unused more = both (ss ++ (fresh tag n ∷ [])) (tagged-append ss (fresh tag n) tags fits (not-true (named tag ss) unused)) (let e = total-append ss (fresh tag n) in omega arith)

  -- a sheet whose tag stays and whose rows grow no more than there is room for
  changed : (tag n : ℕ) (f : Sheet ℕ → Sheet ℕ) → ((s : Sheet ℕ) → (f s).tag ≡ s.tag) → ((s : Sheet ℕ) → (f s).rows ≤ s.rows + n) → total ss + n ≤ capacity → lawful capacity (altered tag f ss) ≡ true
  changed tag n f keeps more fits = both (altered tag f ss) (tagged-altered tag f keeps ss ∙ tags) (let e = total_grown tag n f more ss tags in omega arith)

  same_rows : (tag : ℕ) (f : Sheet ℕ → Sheet ℕ) → ((s : Sheet ℕ) → (f s).tag ≡ s.tag) → ((s : Sheet ℕ) → (f s).rows ≤ s.rows) → lawful capacity (altered tag f ss) ≡ true
  same_rows tag f keeps fewer = changed tag 0 f keeps (λ s. let e = fewer s in omega arith) (let e = room in omega arith)

  fewer_struck : (row n : ℕ) → cond (ltb (row - 1) n) (n - 1) n ≤ n
  fewer_struck row n = cond_both (ltb (row - 1) n) (n - 1) n (λ k. k ≤ n) (λ e. omega arith) (λ e. omega arith)

  pub after-lawful : (call : Call) → refusal_of capacity ss call ≡ None → lawful capacity (after counts ss call) ≡ true
  after-lawful (Open tag) e =
      let a = passed (is_tag tag) TagOutOfRange _ e in
      let b = passed (not (named tag ss)) TagInUse _ a.1 in
      appended tag 0 a.0 b.0 (let r = room in omega arith)
  after-lawful (Copy tag new) e =
      let a = passed (is_tag tag && is_tag new) TagOutOfRange _ e in
      let b = passed (named tag ss) NoSuchSheet _ a.1 in
      let c = passed (not (named new ss)) TagInUse _ b.1 in
      let d = passed (ltb (length ss) 8) TooManySheets _ c.1 in
      let f = passed (such is_settled tag ss) NotSettled _ d.1 in
      let g = passed (leb (total ss + rows_of 0 tag ss) capacity) NoRoom None f.1 in
      let copied = copies-found counts tag new 0 ss b.0 in
      ap (λ cs. lawful capacity (ss ++ cs)) copied
      ∙ appended new (rows_of 0 tag ss) (and_parts (is_tag tag) (is_tag new) a.0).1 c.0 (leb-true (total ss + rows_of 0 tag ss) capacity g.0)
  after-lawful (Rename tag new) e =
      let a = passed (is_tag tag && is_tag new) TagOutOfRange _ e in
      let b = passed (named tag ss) NoSuchSheet _ a.1 in
      let c = passed (not (named new ss)) TagInUse _ b.1 in
      both (altered tag (retagged new) ss) (tagged-retagged tag new ss tags (and_parts (is_tag tag) (is_tag new) a.0).1 (not-true (named new ss) c.0)) (let e = total-altered tag (retagged new) (λ s. omega arith) ss in let r = room in omega arith)
  after-lawful (Close tag) e = both (without tag ss) (tagged-without tag ss tags) (let e = total-without tag ss in let r = room in omega arith)
  after-lawful (Insert tag row kind) e =
      let a = passed (is_tag tag) TagOutOfRange _ e in
      let b = passed (named tag ss) NoSuchSheet _ a.1 in
      let c = passed (is_row (rows_of 0 tag ss + 1) row) RowOutOfRange _ b.1 in
      let d = passed (leb (total ss + 1) capacity) NoRoom None c.1 in
      changed tag 1 (edited (counts.edit (inserts row kind))) (λ s. refl) (λ s. omega arith) (leb-true (total ss + 1) capacity d.0)
  after-lawful (Strike tag row) e = same_rows tag (edited (counts.edit (strikes row))) (λ s. refl) (λ s. fewer_struck row s.rows)
  after-lawful (Replace tag row kind) e = same_rows tag (edited (counts.edit (replaces row kind))) (λ s. refl) (λ s. omega arith)
  after-lawful (Pause tag) e = same_rows tag (restated Paused) (λ s. refl) (λ s. omega arith)
  after-lawful (Recalculate tag) e = same_rows tag (λ s. restated Settled (edited counts.renew s)) (λ s. refl) (λ s. omega arith)
  after-lawful _ e = h
