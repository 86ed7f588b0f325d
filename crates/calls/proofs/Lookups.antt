-- What is read by tag, after a sheet was added, changed or taken out.
use Rattle.std.proofs.Common.{◌≡◌, ℕ, Bool, true, false, cond, ◌||◌, eqb, List, [], ◌∷◌, ◌++◌, refl, ap, ◌∙◌}
use Rattle.std.proofs.lemmas.Bool.{or_parts, cond-true, cond-false, false≢true}
use Rattle.plain.specs.Sheets.{Sheet, named, rows_of, altered, without}

module _ {X : Type 0} where
  -- a sheet that is not there is not taken out
  pub without-none : (tag : ℕ) (ss : List (Sheet X)) → named tag ss ≡ false → without tag ss ≡ ss
  without-none tag [] h = refl
  without-none tag (s ∷ ss) h =
      let parts = or_parts (eqb s.tag tag) (named tag ss) h in
      cond-false (eqb s.tag tag) (without tag ss) (s ∷ without tag ss) parts.0 ∙ ap (λ l. s ∷ l) (without-none tag ss parts.1)

  -- the rows of a sheet that was changed
  pub rows-altered : (tag : ℕ) (d u : X) (f : Sheet X → Sheet X) → ((s : Sheet X) → (f s).tag ≡ s.tag) → ((s : Sheet X) → (f s).rows ≡ u) → (ss : List (Sheet X)) → named tag ss ≡ true → rows_of d tag (altered tag f ss) ≡ u
  rows-altered tag d u f keeps made [] stands = absurd (false≢true stands)
  rows-altered tag d u f keeps made (s ∷ ss) stands = go (eqb s.tag tag) refl stands (rows-altered tag d u f keeps made ss)
    where
      go : (b : Bool) → eqb s.tag tag ≡ b → (b || named tag ss) ≡ true → (named tag ss ≡ true → rows_of d tag (altered tag f ss) ≡ u) → cond (eqb (cond b (f s) s).tag tag) (cond b (f s) s).rows (rows_of d tag (altered tag f ss)) ≡ u
      go true at here rest = cond-true (eqb (f s).tag tag) (f s).rows (rows_of d tag (altered tag f ss)) (ap (λ t. eqb t tag) (keeps s) ∙ at) ∙ made s
      go false at here rest = cond-false (eqb s.tag tag) s.rows (rows_of d tag (altered tag f ss)) at ∙ rest here

  -- the rows of a sheet that stands, after others were added
  pub rows-append : (tag : ℕ) (d : X) (ss ts : List (Sheet X)) → named tag ss ≡ true → rows_of d tag (ss ++ ts) ≡ rows_of d tag ss
  rows-append tag d [] ts stands = absurd (false≢true stands)
  rows-append tag d (s ∷ ss) ts stands = go (eqb s.tag tag) stands (rows-append tag d ss ts)
    where
      go : (b : Bool) → (b || named tag ss) ≡ true → (named tag ss ≡ true → rows_of d tag (ss ++ ts) ≡ rows_of d tag ss) → cond b s.rows (rows_of d tag (ss ++ ts)) ≡ cond b s.rows (rows_of d tag ss)
      go true here rest = refl
      go false here rest = rest here
