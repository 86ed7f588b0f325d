-- What `all` answers at the end of a chain, as a test of every number below a bound; and what `array::from_fn` makes.
use Rattle.std.proofs.Common.{◌≡◌, ℕ, zero, suc, ◌+◌, ◌<◌, ◌≤◌, Bool, true, false, List, map, length, get_or, Option, Iter, sym, refl, ap, ◌∙◌, subst, ⊎_elim, arith}
use Rattle.std.proofs.iter.Yields.{fronts, nat_range_steps}
use Rattle.std.proofs.lemmas.Iterator.{YieldsList-from_slice, YieldsList-from_range}
use Rattle.std.proofs.lemmas.Iterator.Search.{all_from_yields_List}
use Rattle.std.proofs.lemmas.List.FromFn.{fill_by_all}
use Rattle.std.proofs.lemmas.Bool.{cases_eq}
use Rattle.std.specs.Array.{IsFromFnResultFrom, IsFromFnResult}
use Rattle.std.specs.Fn.{Called}
use Rattle.std.specs.Iterator.{YieldsThen}
use Rattle.std.specs.List.{FoldsTo, range_with_len}
use Rattle.std.specs.Option.{MatchOption}
use Rattle.std.specs.declared.ops.Range.{Range}
use Rattle.std.specs.Slice.Iter.{iter_rest}
use denote.Param.Members.{Mut}
use denote.Ref.{Bor}
use Rattle.checks.specs.Below.{all_below}
use Rattle.checks.proofs.Below.{all_in_range, all_in_list}

-- the clause `ran` of `all`
abbrev pub AllRan : {S A F : Type 0} (steps : S → Option A → S → Type 0) (g : Mut F (A × Unit {0}) Bool) → S → S → F → Bool → Type 0
AllRan {S} {A} {F} steps g s u f r = (xs : List A) × (o : Option A) × (j : F) × YieldsThen steps s xs o u × FoldsTo (λ p x q. Called g p (x, tt) true q) f xs j × MatchOption o (r ≡ true) (λ x. (r ≡ false) × ((h : F) × Called g j (x, tt) false h))

-- over the numbers below n
pub all_of_range : {F : Type 0} {g : Mut F (ℕ × Unit {0}) Bool} {s : Range ℕ} (n : ℕ) (p : ℕ → Bool) (u : Range ℕ) (f : F) (r : Bool) → AllRan nat_range_steps g s u f r → s ≡ record { start = 0; end = n } → ((x : ℕ) (b : Bool) (q : F) → Called g f (x, tt) b q → (q ≡ f) × (b ≡ p x)) → r ≡ all_below n p
all_of_range n p u f r ran is computes = all_from_yields_List p u f r ran (YieldsList-from_range 0 n n is (omega arith)) computes ∙ all_in_range n p

-- over the elements of a list, by their places
pub all_of_slice : {X F : Type 0} {g : Mut F (Bor X × Unit {0}) Bool} {s : Iter X} (n : ℕ) (p : X → Bool) (d : X) (xs : List X) (u : Iter X) (f : F) (r : Bool) → AllRan fronts g s u f r → iter_rest s ≡ xs → length xs ≡ n → ((x : Bor X) (b : Bool) (q : F) → Called g f (x, tt) b q → (q ≡ f) × (b ≡ p x.now)) → r ≡ all_below n (λ i. p (get_or xs i d))
all_of_slice n p d xs u f r ran is long computes = all_from_yields_List p u f r ran (YieldsList-from_slice xs is) computes ∙ all_in_list p d xs ∙ ap (λ k. all_below k (λ i. p (get_or xs i d))) long

-- the array that is made by calls of a closure that computes f
module _ {X F : Type 0} {g : Mut F (ℕ × Unit {0}) X} {made : F} (f : ℕ → X) (d : X) (xs : List X) (computes : (i : ℕ) (x : X) (q : F) → Called g made (i, tt) x q → (q ≡ made) × (x ≡ f i)) where
  made_from : (i n : ℕ) (p : F) → p ≡ made → IsFromFnResultFrom g p xs i n → (k : ℕ) → i ≤ k → k < i + n → get_or xs k d ≡ f k
  made_from i zero p same each k after before = absurd (omega arith)
  made_from i (suc n) p same (q, x, there, called, rest) k after before =
      let call = computes i x q (subst (λ v. Called g v (i, tt) x q) same called) in
      ⊎_elim (λ here. ap (λ j. get_or xs j d) here ∙ there.1 d ∙ call.1 ∙ ap f (sym here)) (λ other. made_from (i + 1) n q call.0 rest k (omega arith) (omega arith)) (cases_eq k i)

  pub made_by_calls : (n : ℕ) → IsFromFnResult g made xs n → xs ≡ map f (range_with_len 0 n)
  made_by_calls n is = fill_by_all f xs n d is.long (λ k h. made_from 0 n made refl is.each k (omega arith) (omega arith))
