-- A record put into the array, taken out of it, or changed in it, by the records that stand.
use Rattle.std.proofs.Common.{◌≡◌, ℕ, zero, suc, ◌+◌, ◌<◌, ◌≤◌, List, [], ◌∷◌, ◌++◌, length, take, drop, set, refl, ap, ◌∙◌, add-one, arith, length-append, length-take, take-take}
use lib.Seq.{take-append-le}
use Rattle.records.specs.Entries.{without_place}

module _ {X : Type 0} where
  -- one place more is counted in, and what stands there is the last
  pub take_put : (xs : List X) (n : ℕ) (x : X) → n < length xs → take (n + 1) (set xs n x) ≡ take n xs ++ (x ∷ [])
  take_put xs n x h = ap (λ k. take k (set xs n x)) (add-one n) ∙ go xs n h
    where
      go : (ys : List X) (k : ℕ) → k < length ys → take (suc k) (set ys k x) ≡ take k ys ++ (x ∷ [])
      go [] k l = absurd (omega arith)
      go (y ∷ ys) zero l = refl
      go (y ∷ ys) (suc k) l = ap (λ t. y ∷ t) (go ys k (omega arith))

  -- `xs[i..]` turned by one, and one place fewer counted in: the i-th is out
  pub turned : (xs : List X) (n i k : ℕ) (r : List X) → i + k ≡ length xs → i ≤ n → n < length xs → r ≡ drop 1 (take k (drop i xs)) ++ take 1 (take k (drop i xs)) → take n (take i xs ++ (r ++ drop k (drop i xs))) ≡ without_place i (take (suc n) xs)
  turned [] n i k r e h l f = absurd (omega arith)
  turned (x ∷ xs) n zero zero r e h l f = absurd (omega arith)
  turned (x ∷ xs) n zero (suc k) r e h l f =
      let a : n ≤ length (take k xs) = simp length-take (omega arith) in
      let b : n ≤ length (take k xs ++ (x ∷ [])) = simp length-append (omega arith) in
      let c : n ≤ k = omega arith in
      rw f (take-append-le n (take k xs ++ (x ∷ [])) (drop k xs) b ∙ take-append-le n (take k xs) (x ∷ []) a ∙ take-take n k xs c)
  turned (x ∷ xs) zero (suc i) k r e h l f = absurd (omega arith)
  turned (x ∷ xs) (suc n) (suc i) k r e h l f = ap (λ t. x ∷ t) (turned xs n i k r (omega arith) (omega arith) (omega arith) f)
