-- The fewest rows of each height: more for each height more, and no balanced tree has fewer.
use Rattle.std.proofs.Common.{◌≡◌, ℕ, zero, suc, ◌+◌, ◌≤◌, max, refl, ap, ⊎_elim, add-one, arith}
use Rattle.std.proofs.lemmas.Bool.{cases_lt}
use Rattle.cells.specs.Trees.{Tree, leaf, node, size, height, Balanced}
use Rattle.heights.specs.Heights.{fewest}

pub fewest-none : fewest 0 ≡ 0
unfolding fewest
fewest-none = refl

pub fewest_one : fewest 1 ≡ 1
unfolding fewest
fewest_one = refl

pub fewest_more : (h : ℕ) → fewest (h + 1 + 1) ≡ fewest (h + 1) + fewest h + 1
unfolding fewest
fewest_more h = rw (add-one, add-one)

-- a row more at the least
pub fewest_next : (h : ℕ) → fewest h + 1 ≤ fewest (suc h)
unfolding fewest
fewest_next zero = omega arith
fewest_next (suc h) = omega arith

pub fewest-above : (h : ℕ) → h ≤ fewest h
unfolding fewest
fewest-above zero = omega arith
fewest-above (suc h) = let a = fewest-above h in let b = fewest_next h in omega arith

pub fewest_up : (h k : ℕ) → h ≤ k → fewest h ≤ fewest k
fewest_up h zero le = let e : fewest h ≡ fewest 0 = ap fewest (omega arith) in omega arith
fewest_up h (suc k) le =
    ⊎_elim
    (λ lt. let a = fewest_up h k (omega arith) in let b = fewest_next k in omega arith)
    (λ ge. let e : fewest h ≡ fewest (suc k) = ap fewest (omega arith) in omega arith)
    (cases_lt h (suc k))

-- one row over two sides whose heights differ by at most one
fewest-join : (h k : ℕ) → k ≤ h → h ≤ k + 1 → fewest (suc h) ≤ fewest h + fewest k + 1
unfolding fewest
fewest-join zero k le near = omega arith
fewest-join (suc h) k le near = let a = fewest_up h k (omega arith) in omega arith

pub balanced_rows : {E : Type 0} (t : Tree E) → Balanced t → fewest (height t) ≤ size t
balanced_rows leaf b = let z = fewest-none in omega arith
balanced_rows (node l i k p r) b =
    let hl = balanced_rows l b.1 in
    let hr = balanced_rows r b.2 in
    ⊎_elim
    (λ lt. let e : max (height l) (height r) + 1 ≡ suc (height r) = omega arith in let j = fewest-join (height r) (height l) (omega arith) b.0.1 in rw e (omega arith))
    (λ le. let e : max (height l) (height r) + 1 ≡ suc (height l) = omega arith in let j = fewest-join (height l) (height r) le b.0.0 in rw e (omega arith))
    (cases_lt (height l) (height r))
