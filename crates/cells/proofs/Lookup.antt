-- Reading and writing a list of cells by place.
use Rattle.std.proofs.Common.{◌≡◌, ℕ, zero, suc, ◌<◌, ◌≢◌, List, [], ◌∷◌, length, set, Some, None, refl, ap, arith}
use Rattle.std.specs.List.{slice_get}

pub some_one : {X : Type 0} {a b : X} → Some a ≡ Some b → a ≡ b
some_one e = cc

pub none-some : {X : Type 0} {a : X} → None ≡ Some a → ⊥
none-some e = let z : ◌≡◌ {A = ℕ} 0 1 = cc in omega arith

module _ {X : Type 0} where
  pub nth_within : (xs : List X) (i : ℕ) (c : X) → slice_get xs i ≡ Some c → i < length xs
  nth_within [] i c h = let z : ◌≡◌ {A = ℕ} 0 1 = cc in absurd (omega arith)
  nth_within (x ∷ xs) zero c h = omega arith
  nth_within (x ∷ xs) (suc i) c h = let r = nth_within xs i c h in omega arith

  pub nth_set_same : (xs : List X) (i : ℕ) (c : X) → i < length xs → slice_get (set xs i c) i ≡ Some c
  nth_set_same [] i c h = absurd (omega arith)
  nth_set_same (x ∷ xs) zero c h = refl
  nth_set_same (x ∷ xs) (suc i) c h = nth_set_same xs i c (omega arith)

  pub nth_set_other : (xs : List X) (i j : ℕ) (c : X) → j ≢ i → slice_get (set xs i c) j ≡ slice_get xs j
  nth_set_other [] i j c h = refl
  nth_set_other (x ∷ xs) zero zero c h = absurd (h refl)
  nth_set_other (x ∷ xs) zero (suc j) c h = refl
  nth_set_other (x ∷ xs) (suc i) zero c h = refl
  nth_set_other (x ∷ xs) (suc i) (suc j) c h = nth_set_other xs i j c (λ e. h (ap suc e))
