-- What appending, altering and removing a sheet leave of the rows of all sheets.
use Rattle.std.proofs.Common.{◌≡◌, ℕ, ◌+◌, ◌≤◌, Bool, true, false, cond, eqb, List, [], ◌∷◌, ◌++◌, sym, refl, ap, ◌∙◌, arith}
use Rattle.std.proofs.lemmas.Bool.{eqb-true}
use Rattle.plain.specs.Sheets.{Sheet, named, altered, without, total}
use Rattle.plain.specs.Lawful.{tagged}
use Rattle.plain.proofs.Tags.{altered-none, head_apart, tail_tagged}

pub total-append : (ss : List (Sheet ℕ)) (t : Sheet ℕ) → total (ss ++ (t ∷ [])) ≡ total ss + t.rows
total-append [] t = omega arith
total-append (s ∷ ss) t = let h = total-append ss t in omega arith

pub total-altered : (tag : ℕ) (f : Sheet ℕ → Sheet ℕ) → ((s : Sheet ℕ) → (f s).rows ≤ s.rows) → (ss : List (Sheet ℕ)) → total (altered tag f ss) ≤ total ss
total-altered tag f fewer [] = omega arith
total-altered tag f fewer (s ∷ ss) = go (eqb s.tag tag) (total-altered tag f fewer ss)
  where
    go : (b : Bool) → total (altered tag f ss) ≤ total ss → (cond b (f s) s).rows + total (altered tag f ss) ≤ s.rows + total ss
    go true rest = let h = fewer s in omega arith
    go false rest = omega arith

-- one sheet at most grows
pub total_grown : (tag n : ℕ) (f : Sheet ℕ → Sheet ℕ) → ((s : Sheet ℕ) → (f s).rows ≤ s.rows + n) → (ss : List (Sheet ℕ)) → tagged ss ≡ true → total (altered tag f ss) ≤ total ss + n
total_grown tag n f more [] h = omega arith
total_grown tag n f more (s ∷ ss) h = go (eqb s.tag tag) refl (total_grown tag n f more ss (tail_tagged s ss h))
  where
    go : (b : Bool) → eqb s.tag tag ≡ b → total (altered tag f ss) ≤ total ss + n → (cond b (f s) s).rows + total (altered tag f ss) ≤ s.rows + total ss + n
    go true here rest =
        let same : total (altered tag f ss) ≡ total ss = ap total (altered-none tag f ss (ap (λ t. named t ss) (sym (eqb-true s.tag tag here)) ∙ head_apart s ss h)) in
        let m = more s in
        omega arith
    go false here rest = omega arith

pub total-without : (tag : ℕ) (ss : List (Sheet ℕ)) → total (without tag ss) ≤ total ss
total-without tag [] = omega arith
total-without tag (s ∷ ss) = go (eqb s.tag tag) (total-without tag ss)
  where
    go : (b : Bool) → total (without tag ss) ≤ total ss → total (cond b (without tag ss) (s ∷ without tag ss)) ≤ s.rows + total ss
    go true rest = omega arith
    go false rest = omega arith
