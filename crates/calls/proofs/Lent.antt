-- The cells that are lent on are those within the capacity, and the others are left alone.
use Rattle.std.proofs.Common.{◌≡◌, ℕ, ◌≤◌, min, List, ◌++◌, length, take, drop, sym, ap, ◌∙◌, ⊎_elim, arith, length-take, length-drop, length-append}
use Rattle.std.proofs.Math.Seq.{take-append_seam, drop-append_seam}
use Rattle.std.proofs.lemmas.Bool.{cases_lt}
use Rattle.std.proofs.lemmas.List.{drop_all}

-- `within` of the cells x were lent, and became y; `n` is the capacity
module _ {A : Type 0} (n within : ℕ) (x y : List A) (some : within ≡ min n (length x)) (kept : length y ≡ length (take within x)) where
  long : length y ≡ within
  long = let t = length-take within x in omega arith

  -- there are as many cells as before
  same_length : length (y ++ drop within x) ≡ length x
  same_length = let l = long in let d = length-drop within x in let a = length-append y (drop within x) in omega arith

  -- what lies past the capacity is untouched
  pub beyond_same : drop n (y ++ drop within x) ≡ drop n x
  beyond_same =
      let l = long in
      let e = same_length in
      ⊎_elim
      (λ h. drop_all n (y ++ drop within x) (omega arith) ∙ sym (drop_all n x (omega arith)))
      (λ h.
      let here : length y ≡ n = omega arith in
      let there : within ≡ n = omega arith in
      ap (λ k. drop k (y ++ drop within x)) (sym here) ∙ drop-append_seam y (drop within x) ∙ ap (λ k. drop k x) there)
      (cases_lt (length x) n)

  -- where there are enough cells, those within the capacity were lent, and are what came of them
  module _ (enough : n ≤ length x) where
    pub lent_are : take within x ≡ take n x
    lent_are = let e : within ≡ n = omega arith in ap (λ k. take k x) e

    pub became : take n (y ++ drop within x) ≡ y
    became = let l = long in let here : length y ≡ n = omega arith in ap (λ k. take k (y ++ drop within x)) (sym here) ∙ take-append_seam y (drop within x)
