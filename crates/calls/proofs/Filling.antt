-- Trees and a list of places that fill the places below a bound.
use Rattle.std.proofs.Common.{◌≡◌, ℕ, zero, suc, ◌+◌, ◌<◌, ◌≤◌, List, [], ◌∷◌, length, refl, ap, ⊎_elim, arith}
use Rattle.std.proofs.lemmas.Bool.{cases_lt}
use Rattle.cells.specs.Trees.{Tree, leaf, node, size, count, here}
use Rattle.cells.proofs.Frame.{here_same, here_other}
use Rattle.unused.specs.Listed.{times}
use Rattle.unused.specs.Freeing.{sum}

-- what f gives at all numbers below n together
abbrev pub below : ℕ → (ℕ → ℕ) → ℕ
below zero f = 0
below (suc n) f = f n + below n f

-- two functions give together what each gives
pub below_plus : (n : ℕ) (f g : ℕ → ℕ) → below n (λ q. f q + g q) ≡ below n f + below n g
below_plus zero f g = refl
below_plus (suc n) f g = let r = below_plus n f g in omega arith

-- a function that is zero at each of them
pub below_none : (n : ℕ) (f : ℕ → ℕ) → ((q : ℕ) → q < n → f q ≡ 0) → below n f ≡ 0
below_none zero f none = refl
below_none (suc n) f none = let a = none n (omega arith) in let r = below_none n f (λ q h. none q (omega arith)) in omega arith

-- a function that is one at each of them
pub below_once : (n : ℕ) (f : ℕ → ℕ) → ((q : ℕ) → q < n → f q ≡ 1) → below n f ≡ n
below_once zero f once = refl
below_once (suc n) f once = let a = once n (omega arith) in let r = below_once n f (λ q h. once q (omega arith)) in omega arith

-- a place among them is met once
pub below_here : (n i : ℕ) → i < n → below n (λ q. here q i) ≡ 1
below_here zero i h = absurd (omega arith)
below_here (suc n) i h =
    ⊎_elim
    (λ lt. let a = here_other n i (λ e. omega arith) in let r = below_here n i lt in omega arith)
    (λ le.
    let e : n ≡ i = omega arith in
    let a = here_same i in
    let b : here n i ≡ here i i = ap (λ v. here v i) e in
    let r = below_none n (λ q. here q i) (λ q lt. here_other q i (λ e'. omega arith)) in
    omega arith)
    (cases_lt i n)

-- a tree whose places are all among them counts its rows
pub below_tree : {E : Type 0} (n : ℕ) (t : Tree E) → ((q : ℕ) → n ≤ q → count q t ≡ 0) → below n (λ q. count q t) ≡ size t
below_tree n leaf past = below_none n (λ q. 0) (λ q h. refl)
below_tree n (node l i k p r) past =
    let a = below_tree n l (λ q h. let z = past q h in omega arith) in
    let b = below_tree n r (λ q h. let z = past q h in omega arith) in
    let c = below_here n i (⊎_elim (λ lt. lt) (λ le. let z = past i le in let o = here_same i in absurd (omega arith)) (cases_lt i n)) in
    let d = below_plus n (λ q. count q l + here q i) (λ q. count q r) in
    let e = below_plus n (λ q. count q l) (λ q. here q i) in
    omega arith

-- several trees count the rows of all
pub below_trees : {E : Type 0} (n : ℕ) (ts : List (Tree E)) → ((q : ℕ) → n ≤ q → sum (count q) ts ≡ 0) → below n (λ q. sum (count q) ts) ≡ sum size ts
below_trees n [] past = below_none n (λ q. 0) (λ q h. refl)
below_trees n (t ∷ ts) past =
    let a = below_tree n t (λ q h. let z = past q h in omega arith) in
    let b = below_trees n ts (λ q h. let z = past q h in omega arith) in
    let c = below_plus n (λ q. count q t) (λ q. sum (count q) ts) in
    omega arith

-- a list of places that are all among them counts its length
pub below_places : (n : ℕ) (is : List ℕ) → ((q : ℕ) → n ≤ q → times q is ≡ 0) → below n (λ q. times q is) ≡ length is
below_places n [] past = below_none n (λ q. 0) (λ q h. refl)
below_places n (i ∷ is) past =
    let a = below_here n i (⊎_elim (λ lt. lt) (λ le. let z = past i le in let o = here_same i in absurd (omega arith)) (cases_lt i n)) in
    let b = below_places n is (λ q h. let z = past q h in omega arith) in
    let c = below_plus n (λ q. here q i) (λ q. times q is) in
    omega arith

-- trees and a list in which each place below n stands once, and no other, have n rows and places together
pub filled : {E : Type 0} (n : ℕ) (ts : List (Tree E)) (is : List ℕ) → ((q : ℕ) → q < n → sum (count q) ts + times q is ≡ 1) → ((q : ℕ) → n ≤ q → sum (count q) ts + times q is ≡ 0) → length is + sum size ts ≡ n
filled n ts is once beyond =
    let a = below_trees n ts (λ q h. let z = beyond q h in omega arith) in
    let b = below_places n is (λ q h. let z = beyond q h in omega arith) in
    let c = below_plus n (λ q. sum (count q) ts) (λ q. times q is) in
    let d = below_once n (λ q. sum (count q) ts + times q is) once in
    omega arith
