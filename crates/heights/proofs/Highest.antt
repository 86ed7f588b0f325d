-- The greatest height for which so many rows are enough.
use Rattle.std.proofs.Common.{◌≡◌, ℕ, zero, suc, ◌<◌, ◌≤◌, cond, List, Some, None, Option, sym, refl, ap, ◌∙◌, subst, ⊎_elim, arith}
use Rattle.std.proofs.lemmas.Bool.{cases_lt, le-leb, lt-leb}
use Rattle.cells.specs.declared.cell.Cell.{Cell}
use Rattle.cells.specs.Trees.{Tree, size, height}
use Rattle.cells.specs.Rooted.{SizeAt}
use Rattle.cells.proofs.Lookup.{some_one, none-some}
use Rattle.heights.specs.Heights.{fewest, highest_upto, highest, Greatest, Worked, Bounded, Bounds}
use Rattle.heights.proofs.Fewest.{fewest-none, fewest-above, fewest_up, balanced_rows}

upto_yes : (h n : ℕ) → fewest (suc h) ≤ n → highest_upto (suc h) n ≡ suc h
unfolding highest_upto
upto_yes h n le = ap (λ b. cond b (suc h) (highest_upto h n)) (le-leb (fewest (suc h)) n le)

upto_no : (h n : ℕ) → n < fewest (suc h) → highest_upto (suc h) n ≡ highest_upto h n
unfolding highest_upto
upto_no h n lt = ap (λ b. cond b (suc h) (highest_upto h n)) (lt-leb (fewest (suc h)) n lt)

upto-none : (n : ℕ) → highest_upto 0 n ≡ 0
unfolding highest_upto
upto-none n = refl

upto_enough : (h n : ℕ) → fewest (highest_upto h n) ≤ n
upto_enough zero n = let e = ap fewest (upto-none n) in let z = fewest-none in omega arith
upto_enough (suc h) n =
    ⊎_elim
    (λ lt. let e = ap fewest (upto_no h n lt) in let a = upto_enough h n in omega arith)
    (λ le. let e = ap fewest (upto_yes h n le) in omega arith)
    (cases_lt n (fewest (suc h)))

upto_most : (h n k : ℕ) → fewest k ≤ n → k ≤ h → k ≤ highest_upto h n
upto_most zero n k enough le = omega arith
upto_most (suc h) n k enough le =
    ⊎_elim
    (λ lt.
    let e = upto_no h n lt in
    let less : k ≤ h = ⊎_elim (λ below. omega arith) (λ above. let u = fewest_up (suc h) k above in absurd (omega arith)) (cases_lt k (suc h)) in
    let a = upto_most h n k enough less in
    omega arith)
    (λ ge. let e = upto_yes h n ge in omega arith)
    (cases_lt n (fewest (suc h)))

pub greatest : (n : ℕ) → Greatest n (highest n)
unfolding highest
greatest n = record { enough = upto_enough n n; most = λ k enough. let a = fewest-above k in upto_most n n k enough (omega arith) }

-- a height for which so many rows are enough, and for the next they are not
pub highest_is : (n h : ℕ) → fewest h ≤ n → n < fewest (suc h) → h ≡ highest n
highest_is n h enough not_next =
    let g = greatest n in
    let a = g.most h enough in
    let b = g.enough in
    ⊎_elim (λ lt. let u = fewest_up (suc h) (highest n) lt in absurd (omega arith)) (λ le. omega arith) (cases_lt h (highest n))

pub highest_up : (n k : ℕ) → n ≤ k → highest n ≤ highest k
highest_up n k le = let g = (greatest n).enough in (greatest k).most (highest n) (omega arith)

pub worked : Worked
unfolding fewest
worked = record { of_32 = sym (highest_is 32 6 (omega arith) (omega arith)); of_33 = sym (highest_is 33 7 (omega arith) (omega arith)); of_4096 = sym (highest_is 4096 16 (omega arith) (omega arith)) }

-- for numbers of rows in 16 bits it stays below 23
pub below_limit : (h n : ℕ) → fewest h ≤ n → n < 65536 → h < 23
unfolding fewest
below_limit h n enough few = ⊎_elim (λ lt. lt) (λ ge. let u = fewest_up 23 h ge in absurd (omega arith)) (cases_lt h 23)

pub bounded : {E : Type 0} (t : Tree E) → size t < 65536 → Bounded t (highest (size t))
bounded t few =
    let g = greatest (size t) in
    record {
      greatest = refl;
      low = λ b. g.most (height t) (balanced_rows t b);
      few = λ small. let a = highest_up (size t) 4096 small in let w = worked.of_4096 in omega arith;
      never = let a = below_limit (highest (size t)) (size t) g.enough few in omega arith;
    }

-- the bound by the rows that were read
pub bounds_at : {E : Type 0} (cells : List (Cell E)) (root : Option ℕ) (n h : ℕ) → SizeAt cells root (Some n) → n < 65536 → h ≡ highest n → Bounds cells root (Some h)
bounds_at cells root n h read few is t s e =
    let rows : n ≡ size t = some_one (read t s e) in
    (h, refl, subst (λ v. Bounded t v) (sym (is ∙ ap highest rows)) (bounded t (omega arith)))

pub bounds_no : {E : Type 0} (cells : List (Cell E)) (root out : Option ℕ) → SizeAt cells root None → Bounds cells root out
bounds_no cells root out read t s e = absurd (none-some (read t s e))
