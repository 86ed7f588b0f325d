-- What is held, after sheets were added or changed whose trees stay.
use Rattle.std.proofs.Common.{◌≡◌, ℕ, ◌+◌, ◌≤◌, Bool, true, false, cond, ◌||◌, eqb, List, [], ◌∷◌, ◌++◌, sym, refl, ap, ◌∙◌, subst, ap₂, arith}
use Rattle.monoid.specs.Meaning.{Meaning}
use Rattle.std.proofs.lemmas.Bool.{eqb-true, false≢true}
use Rattle.plain.specs.Sheets.{Sheet, is_paused, such, named, rows_of, altered, without}
use Rattle.plain.specs.Lawful.{tagged}
use Rattle.plain.proofs.Tags.{altered-none, head_apart, tail_tagged}
use Rattle.cells.specs.declared.cell.Cell.{Cell}
use Rattle.cells.specs.Trees.{Tree, leaf, count, Stands}
use Rattle.unused.specs.Freeing.{sum}
use Rattle.calls.specs.Models.{Model, trees_of}
use Rattle.calls.specs.Sound.{Held, AllHeld}
use Rattle.calls.proofs.Lookups.{without-none}

module _ {E : Type 0} (lawful : Bool) (m : Meaning E) (cells : List (Cell E)) where
  pub held_append : (ss : Model E) (s : Sheet (Tree E)) → AllHeld lawful m cells ss → Held lawful m cells s → AllHeld lawful m cells (ss ++ (s ∷ []))
  held_append [] s all one = (one, tt)
  held_append (t ∷ ss) s all one = (all.0, held_append ss s all.1 one)

  -- a sheet changed so that it is held still
  pub held_altered : (tag : ℕ) (f : Sheet (Tree E) → Sheet (Tree E)) → ((s : Sheet (Tree E)) → Held lawful m cells s → Held lawful m cells (f s)) → (ss : Model E) → AllHeld lawful m cells ss → AllHeld lawful m cells (altered tag f ss)
  held_altered tag f keeps [] all = tt
  held_altered tag f keeps (s ∷ ss) all = (head (eqb s.tag tag), held_altered tag f keeps ss all.1)
    where
      head : (b : Bool) → Held lawful m cells (cond b (f s) s)
      head true = keeps s all.0
      head false = all.0

pub trees_append : {E : Type 0} (ss : Model E) (s : Sheet (Tree E)) → trees_of (ss ++ (s ∷ [])) ≡ trees_of ss ++ (s.rows ∷ [])
trees_append [] s = refl
trees_append (t ∷ ss) s = ap (λ l. t.rows ∷ l) (trees_append ss s)

pub trees_altered : {E : Type 0} (tag : ℕ) (f : Sheet (Tree E) → Sheet (Tree E)) → ((s : Sheet (Tree E)) → (f s).rows ≡ s.rows) → (ss : Model E) → trees_of (altered tag f ss) ≡ trees_of ss
trees_altered tag f keeps [] = refl
trees_altered {E} tag f keeps (s ∷ ss) = ap₂ ◌∷◌ (head (eqb s.tag tag)) (trees_altered tag f keeps ss)
  where
    head : (b : Bool) → (cond b (f s) s).rows ≡ s.rows
    head true = keeps s
    head false = refl

pub sum-append : {E : Type 0} (f : Tree E → ℕ) (ts : List (Tree E)) (t : Tree E) → sum f (ts ++ (t ∷ [])) ≡ sum f ts + f t
sum-append f [] t = omega arith
sum-append f (s ∷ ts) t = let h = sum-append f ts t in omega arith

-- what a place counts in the tree of a sheet is among what it counts in all of them
pub count-among : {E : Type 0} (q tag : ℕ) (ss : Model E) → count q (rows_of leaf tag ss) ≤ sum (count q) (trees_of ss)
count-among q tag [] = omega arith
count-among q tag (s ∷ ss) = go (eqb s.tag tag) (count-among q tag ss)
  where
    go : (b : Bool) → count q (rows_of leaf tag ss) ≤ sum (count q) (trees_of ss) → count q (cond b s.rows (rows_of leaf tag ss)) ≤ count q s.rows + sum (count q) (trees_of ss)
    go true rest = omega arith
    go false rest = omega arith

-- where the tree of a sheet is changed, the others count what they counted
pub sum-altered : {E : Type 0} (q tag : ℕ) (u : Tree E) (f : Sheet (Tree E) → Sheet (Tree E)) → ((s : Sheet (Tree E)) → (f s).rows ≡ u) → (ss : Model E) → tagged ss ≡ true → named tag ss ≡ true → sum (count q) (trees_of (altered tag f ss)) + count q (rows_of leaf tag ss) ≡ sum (count q) (trees_of ss) + count q u
sum-altered q tag u f made [] distinct stands = absurd (false≢true stands)
sum-altered {E} q tag u f made (s ∷ ss) distinct stands = go (eqb s.tag tag) refl stands (sum-altered q tag u f made ss (tail_tagged s ss distinct))
  where
    go : (b : Bool) → eqb s.tag tag ≡ b → (b || named tag ss) ≡ true → (named tag ss ≡ true → sum (count q) (trees_of (altered tag f ss)) + count q (rows_of leaf tag ss) ≡ sum (count q) (trees_of ss) + count q u) → count q (cond b (f s) s).rows + sum (count q) (trees_of (altered tag f ss)) + count q (cond b s.rows (rows_of leaf tag ss)) ≡ count q s.rows + sum (count q) (trees_of ss) + count q u
    go true at here rest =
        let none : named tag ss ≡ false = ap (λ t. named t ss) (sym (eqb-true s.tag tag at)) ∙ head_apart s ss distinct in
        let same : sum (count q) (trees_of (altered tag f ss)) ≡ sum (count q) (trees_of ss) = ap (λ l. sum (count q) (trees_of l)) (altered-none tag f ss none) in
        let new : count q (f s).rows ≡ count q u = ap (count q) (made s) in
        omega arith
    go false at here rest = let e = rest here in omega arith

module _ {E : Type 0} (lawful : Bool) (m : Meaning E) (x y : List (Cell E)) where
  held_moved : (s : Sheet (Tree E)) → (Stands x s.rows → Stands y s.rows) → Held lawful m x s → Held lawful m y s
  held_moved s moves h = record { stands = moves h.stands; balanced = h.balanced; truth = h.truth }

  -- sheets that a change of the cells leaves alone
  pub held_others : (extra : ℕ → ℕ) → ((o : Tree E) → ((q : ℕ) → count q o + extra q ≤ 1) → Stands x o → Stands y o) → (ss : Model E) → ((q : ℕ) → sum (count q) (trees_of ss) + extra q ≤ 1) → AllHeld lawful m x ss → AllHeld lawful m y ss
  held_others extra moves [] apart all = tt
  held_others extra moves (s ∷ ss) apart all = (held_moved s (moves s.rows (λ q. let a = apart q in omega arith)) all.0, held_others extra moves ss (λ q. let a = apart q in omega arith) all.1)

  -- one sheet's tree is changed, and the others are left alone
  pub held_changed : (tag : ℕ) (f : Sheet (Tree E) → Sheet (Tree E)) (extra : ℕ → ℕ) (t : Tree E) (p : Bool) → ((o : Tree E) → ((q : ℕ) → count q o + (count q t + extra q) ≤ 1) → Stands x o → Stands y o) → ((s : Sheet (Tree E)) → s.rows ≡ t → is_paused s.state ≡ p → Held lawful m x s → Held lawful m y (f s)) → (ss : Model E) → tagged ss ≡ true → named tag ss ≡ true → rows_of leaf tag ss ≡ t → such is_paused tag ss ≡ p → ((q : ℕ) → sum (count q) (trees_of ss) + extra q ≤ 1) → AllHeld lawful m x ss → AllHeld lawful m y (altered tag f ss)
  held_changed tag f extra t p moves changes [] distinct stands is state apart all = tt
  held_changed tag f extra t p moves changes (s ∷ ss) distinct stands is state apart all = go (eqb s.tag tag) refl stands is state (held_changed tag f extra t p moves changes ss (tail_tagged s ss distinct))
    where
      go : (b : Bool) → eqb s.tag tag ≡ b → (b || named tag ss) ≡ true → cond b s.rows (rows_of leaf tag ss) ≡ t → cond b (is_paused s.state) (such is_paused tag ss) ≡ p → (named tag ss ≡ true → rows_of leaf tag ss ≡ t → such is_paused tag ss ≡ p → ((q : ℕ) → sum (count q) (trees_of ss) + extra q ≤ 1) → AllHeld lawful m x ss → AllHeld lawful m y (altered tag f ss)) → Held lawful m y (cond b (f s) s) × AllHeld lawful m y (altered tag f ss)
      go true at here tree state rest =
          let none : named tag ss ≡ false = ap (λ v. named v ss) (sym (eqb-true s.tag tag at)) ∙ head_apart s ss distinct in (
            changes s tree state all.0,
            subst (AllHeld lawful m y) (sym (altered-none tag f ss none)) (held_others (λ q. count q t + extra q) moves ss (λ q. let a = apart q in let e : count q s.rows ≡ count q t = ap (count q) tree in omega arith) all.1),
          )
      go false at here tree state rest = (
        held_moved s (moves s.rows (λ q. let a = apart q in let c = count-among q tag ss in let e : count q (rows_of leaf tag ss) ≡ count q t = ap (count q) tree in omega arith)) all.0,
        rest here tree state (λ q. let a = apart q in omega arith) all.1,
      )

  -- one sheet is taken out with its tree, and the others are left alone
  pub held_without : (tag : ℕ) (extra : ℕ → ℕ) (t : Tree E) → ((o : Tree E) → ((q : ℕ) → count q o + (count q t + extra q) ≤ 1) → Stands x o → Stands y o) → (ss : Model E) → tagged ss ≡ true → named tag ss ≡ true → rows_of leaf tag ss ≡ t → ((q : ℕ) → sum (count q) (trees_of ss) + extra q ≤ 1) → AllHeld lawful m x ss → AllHeld lawful m y (without tag ss)
  held_without tag extra t moves [] distinct stands is apart all = tt
  held_without tag extra t moves (s ∷ ss) distinct stands is apart all = go (eqb s.tag tag) refl stands is (held_without tag extra t moves ss (tail_tagged s ss distinct))
    where
      go : (b : Bool) → eqb s.tag tag ≡ b → (b || named tag ss) ≡ true → cond b s.rows (rows_of leaf tag ss) ≡ t → (named tag ss ≡ true → rows_of leaf tag ss ≡ t → ((q : ℕ) → sum (count q) (trees_of ss) + extra q ≤ 1) → AllHeld lawful m x ss → AllHeld lawful m y (without tag ss)) → AllHeld lawful m y (cond b (without tag ss) (s ∷ without tag ss))
      go true at here tree rest =
          let none : named tag ss ≡ false = ap (λ v. named v ss) (sym (eqb-true s.tag tag at)) ∙ head_apart s ss distinct in
          subst (AllHeld lawful m y) (sym (without-none tag ss none)) (held_others (λ q. count q t + extra q) moves ss (λ q. let a = apart q in let e : count q s.rows ≡ count q t = ap (count q) tree in omega arith) all.1)
      go false at here tree rest = (
        held_moved s (moves s.rows (λ q. let a = apart q in let c = count-among q tag ss in let e : count q (rows_of leaf tag ss) ≡ count q t = ap (count q) tree in omega arith)) all.0,
        rest here tree (λ q. let a = apart q in omega arith) all.1,
      )

-- where a sheet is taken out, the others count what they counted
pub sum-without : {E : Type 0} (q tag : ℕ) (ss : Model E) → tagged ss ≡ true → named tag ss ≡ true → sum (count q) (trees_of (without tag ss)) + count q (rows_of leaf tag ss) ≡ sum (count q) (trees_of ss)
sum-without q tag [] distinct stands = absurd (false≢true stands)
sum-without {E} q tag (s ∷ ss) distinct stands = go (eqb s.tag tag) refl stands (sum-without q tag ss (tail_tagged s ss distinct))
  where
    go : (b : Bool) → eqb s.tag tag ≡ b → (b || named tag ss) ≡ true → (named tag ss ≡ true → sum (count q) (trees_of (without tag ss)) + count q (rows_of leaf tag ss) ≡ sum (count q) (trees_of ss)) → sum (count q) (trees_of (cond b (without tag ss) (s ∷ without tag ss))) + count q (cond b s.rows (rows_of leaf tag ss)) ≡ count q s.rows + sum (count q) (trees_of ss)
    go true at here rest =
        let none : named tag ss ≡ false = ap (λ t. named t ss) (sym (eqb-true s.tag tag at)) ∙ head_apart s ss distinct in
        let same : sum (count q) (trees_of (without tag ss)) ≡ sum (count q) (trees_of ss) = ap (λ l. sum (count q) (trees_of l)) (without-none tag ss none) in
        omega arith
    go false at here rest = let e = rest here in omega arith
