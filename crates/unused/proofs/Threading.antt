-- The list of unused cells under writes.
use Rattle.std.proofs.Common.{◌≡◌, ℕ, zero, suc, ◌+◌, ◌<◌, ◌≤◌, false, ◌≢◌, List, [], ◌∷◌, length, set, Some, None, Option, sym, refl, ap, ◌∙◌, subst, ⊎_elim, add-one, arith}
use Rattle.std.specs.List.{slice_get}
use Rattle.std.proofs.lemmas.Bool.{cases_lt, lt-leb}
use Rattle.cells.specs.declared.cell.Cell.{Cell}
use Rattle.cells.specs.Trees.{here, At}
use Rattle.cells.proofs.Frame.{here_same, here_other}
use Rattle.cells.proofs.Lookup.{some_one, none-some, nth_within, nth_set_same, nth_set_other}
use Rattle.unused.specs.declared.list.Taken.{Taken}
use Rattle.unused.specs.Listed.{times, Listed, Takes, Suffices, threaded, Threads, down_from, capacity_of, Prepares}

-- cells that agree at the places of the list lead through it alike
pub listed_kept : {E : Type 0} (x y : List (Cell E)) (first : Option ℕ) (is : List ℕ) → ((q : ℕ) → 0 < times q is → slice_get y q ≡ slice_get x q) → Listed x first is → Listed y first is
listed_kept x y first [] same u = u
listed_kept x y first (i ∷ is) same u =
    let one = here_same i in
    (u.0, u.1, same i (omega arith) ∙ u.2, listed_kept x y u.0.left is (λ q h. same q (omega arith)) u.3)

-- a cell before the list
pub threads : {E : Type 0} (x y : List (Cell E)) (first : Option ℕ) (i : ℕ) (c : Cell E) → At x i c → y ≡ set x i (threaded first c) → Threads x y first i
threads {E} x y first i c read is =
    let d : Cell E = threaded first c in
    let within = nth_within x i c read in
    let other : (q : ℕ) → q ≢ i → slice_get y q ≡ slice_get x q = (λ q ne. ap (λ v. slice_get v q) is ∙ nth_set_other x i q d ne) in
    record {
      after = λ b at. is ∙ ap (λ v. set x i (threaded first v)) (some_one (sym read ∙ at));
      listed = λ is' u z. (d, refl, ap (λ v. slice_get v i) is ∙ nth_set_same x i d within, listed_kept x y first is' (λ q p. other q (λ eq. let t : times q is' ≡ times i is' = ap (λ v. times v is') eq in omega arith)) u);
      kept = other;
    }

pub times-past : (q n : ℕ) → n ≤ q → times q (down_from n) ≡ 0
times-past q zero h = refl
times-past q (suc n) h = let a = here_other q n (λ e. omega arith) in let b = times-past q n (omega arith) in omega arith

pub times-within : (q n : ℕ) → q < n → times q (down_from n) ≡ 1
times-within q zero h = absurd (omega arith)
times-within q (suc n) h =
    ⊎_elim
    (λ lt. let a = here_other q n (λ e. omega arith) in let b = times-within q n lt in omega arith)
    (λ le. let e : q ≡ n = omega arith in let a : here q n ≡ here n n = ap (λ v. here v n) e in let b = here_same n in let c = times-past q n le in omega arith)
    (cases_lt q n)

-- so many of the cells x are threaded
pub record Threading {E : Type 0} (x y : List (Cell E)) (first : Option ℕ) (n : ℕ) : Type 0 where
  pub listed : Listed y first (down_from n)
  pub kept : (q : ℕ) → n ≤ q → slice_get y q ≡ slice_get x q

pub threading_none : {E : Type 0} (x : List (Cell E)) → Threading x x None 0
threading_none x = record { listed = refl; kept = λ q h. refl }

pub threading_more : {E : Type 0} (x y z : List (Cell E)) (first : Option ℕ) (n : ℕ) → Threading x y first n → Threads y z first n → Threading x z (Some n) (n + 1)
threading_more x y z first n t s =
    let le : n ≤ n = omega arith in
    record {
      listed = subst (λ (v : ℕ). Listed z (Some n) (down_from v)) (sym (add-one n)) (s.listed (down_from n) t.listed (times-past n n le));
      kept = λ q h. s.kept q (λ e. omega arith) ∙ t.kept q (omega arith);
    }

pub prepared : {E : Type 0} (x y : List (Cell E)) (first : Option ℕ) (n : ℕ) → n ≡ capacity_of x → Threading x y first n → Prepares x y first
prepared x y first n e t =
    record {
      listed = subst (λ (v : ℕ). Listed y first (down_from v)) e t.listed;
      once = λ q h. times-within q (capacity_of x) h;
      beyond = λ q h. (times-past q (capacity_of x) h, t.kept q (omega arith));
    }

-- so many places are still to be found of those that were asked for
pub record Finding {E : Type 0} (x : List (Cell E)) (first : Option ℕ) (n left : ℕ) (is : List ℕ) : Type 0 where
  pub rest : List ℕ
  pub listed : Listed x first rest
  pub long : length rest + n ≡ length is + left

abbrev pub FindingAll : {E : Type 0} → List (Cell E) → Option ℕ → ℕ → Option ℕ → ℕ → Type 0
FindingAll x first₀ n first left = (is : List ℕ) → Listed x first₀ is → Finding x first n left is

module _ {E : Type 0} (x : List (Cell E)) (first₀ : Option ℕ) (n : ℕ) where
  module _ (first : Option ℕ) (left : ℕ) (some : 0 < left) (inv : FindingAll x first₀ n first left) where
    no_more : (rest is : List ℕ) → Takes x first None → Listed x first rest → length rest + n ≡ length is + left → length is < n
    no_more [] is takes u e = omega arith
    no_more (i ∷ rest) is takes u e = absurd (none-some (takes.made i rest u).1)

    pub finding_no : Takes x first None → Suffices x first₀ n false
    finding_no takes is u = let g = inv is u in sym (lt-leb n (length is) (no_more g.rest is takes g.listed g.long))

    more_at : (taken : Taken) (left' : ℕ) → left' + 1 ≡ left → Takes x first (Some taken) → (rest is : List ℕ) → Listed x first rest → length rest + n ≡ length is + left → Finding x taken.rest.first n left' is
    more_at taken left' e takes [] is u long = absurd (none-some (sym (takes.refused u)))
    more_at taken left' e takes (i ∷ rest) is u long =
        let made = takes.made i rest u in
        let first_is : taken.rest.first ≡ made.0 = ap {A = Taken} (λ v. v.rest.first) (some_one made.1) in
        record { rest = rest; listed = subst (λ (v : Option ℕ). Listed x v rest) (sym first_is) made.2; long = omega arith }

    pub finding_more : (taken : Taken) (left' : ℕ) → left' + 1 ≡ left → Takes x first (Some taken) → FindingAll x first₀ n taken.rest.first left'
    finding_more taken left' e takes is u = let g = inv is u in more_at taken left' e takes g.rest is g.listed g.long
