-- The first and the last of a word that has a row between two words.
use Rattle.std.proofs.Common.{◌≡◌, ℕ, zero, suc, ◌+◌, List, [], ◌∷◌, ◌++◌, length, take, drop, ap, arith}

module _ {X : Type 0} where
  pub take_over : (xs : List X) (k : X) (ys : List X) (n rest : ℕ) → n ≡ length xs + 1 + rest → take n (xs ++ (k ∷ ys)) ≡ xs ++ (k ∷ take rest ys)
  take_over [] k ys zero rest e = absurd (omega arith)
  take_over [] k ys (suc n) rest e = let h : n ≡ rest = omega arith in ap (λ v. k ∷ take v ys) h
  take_over (x ∷ xs) k ys zero rest e = absurd (omega arith)
  take_over (x ∷ xs) k ys (suc n) rest e = ap (λ v. x ∷ v) (take_over xs k ys n rest (omega arith))

  pub drop_over : (xs : List X) (k : X) (ys : List X) (n rest : ℕ) → n ≡ length xs + 1 + rest → drop n (xs ++ (k ∷ ys)) ≡ drop rest ys
  drop_over [] k ys zero rest e = absurd (omega arith)
  drop_over [] k ys (suc n) rest e = let h : n ≡ rest = omega arith in ap (λ v. drop v ys) h
  drop_over (x ∷ xs) k ys zero rest e = absurd (omega arith)
  drop_over (x ∷ xs) k ys (suc n) rest e = drop_over xs k ys n rest (omega arith)
