-- What a memo keeps stays true.
use Rattle.std.proofs.Common.{◌≡◌, ℕ, ◌<◌, ◌⊎◌, Some, Option, sym, ◌∙◌, subst, ap₂, inl, inr, ⊎_elim, arith}
use Rattle.std.proofs.lemmas.Bool.{cases_eq, cases_lt}
use Rattle.monoid.specs.Meaning.{Meaning}
use Rattle.monoid.specs.Laws.{Lawful}
use Rattle.monoid.specs.Small.{Small, Undone, on_indexes}
use Rattle.memo.specs.declared.products.Products.{Products}
use Rattle.memo.specs.Products.{found}
use Rattle.memo.specs.Memo.{Kept}

-- two facts hold together or not
cases_both : {A B : Type 0} → A ⊎ (A → ⊥) → B ⊎ (B → ⊥) → (A × B) ⊎ (A → B → ⊥)
cases_both (inl a) (inl b) = inl (a, b)
cases_both (inl a) (inr not_b) = inr (λ _. not_b)
cases_both (inr not_a) either = inr (λ a _. not_a a)

cases_below : (i n : ℕ) → (i < n) ⊎ (i < n → ⊥)
cases_below i n = ⊎_elim inl (λ h. inr (λ below. omega arith)) (cases_lt i n)

some_is : (k l : ℕ) → ◌≡◌ {A = Option ℕ} (Some k) (Some l) → k ≡ l
some_is k l e = cc

module _ (i j : ℕ) (before after : Products) (others : (a b : ℕ) → (a ≡ i → b ≡ j → ⊥) → found after a b ≡ found before a b) where
  -- what is so at i and j, and at all others that were found before, is so wherever something is found
  either : (P : ℕ → ℕ → ℕ → Type 0) → ((c : ℕ) → found after i j ≡ Some c → P i j c) → ((a b c : ℕ) → found before a b ≡ Some c → P a b c) → (a b c : ℕ) → found after a b ≡ Some c → P a b c
  either P new old a b c e =
      ⊎_elim
      (λ is. subst (λ x. P x b c) (sym is.0) (subst (λ y. P i y c) (sym is.1) (new c (sym (ap₂ (λ x y. found after x y) is.0 is.1) ∙ e))))
      (λ apart. old a b c (sym (others a b apart) ∙ e))
      (cases_both (cases_eq a i) (cases_eq b j))

  kept_by : {E : Type 0} {m : Meaning E} {n : Small E} → ((c : ℕ) → found after i j ≡ Some c → (i < n.order) × (j < n.order) × (c ≡ (on_indexes m n).mul i j)) → Kept m n before → Kept m n after
  kept_by {E} {m} {n} new kept = record {
    left_below = either (λ a _ _. a < n.order) (λ c e. (new c e).0) kept.left_below;
    right_below = either (λ _ b _. b < n.order) (λ c e. (new c e).1) kept.right_below;
    truth = either (λ a b c. c ≡ (on_indexes m n).mul a b) (λ c e. (new c e).2) kept.truth;
  }

  -- one true product more, or none, by a recogniser with the same indexes
  pub kept_more : {E : Type 0} {m : Meaning E} {n w : Small E} → w ≡ n → (k : ℕ) → (i < n.order → j < n.order → k ≡ (on_indexes m n).mul i j) → (i < n.order → j < n.order → found after i j ≡ Some k) → ((i < w.order → j < w.order → ⊥) → found after i j ≡ found before i j) → Kept m n before → Kept m n after
  kept_more {E} {m} {n} {w} steady k k_is here refused kept =
      ⊎_elim
      (λ is. kept_by (λ c e. (is.0, is.1, some_is c k (sym e ∙ here is.0 is.1) ∙ k_is is.0 is.1)) kept)
      (λ out.
      let unkept : found after i j ≡ found before i j = refused (subst (λ (s : Small E). i < s.order → j < s.order → ⊥) (sym steady) out) in
      let was : (c : ℕ) → found after i j ≡ Some c → found before i j ≡ Some c = λ c e. sym unkept ∙ e in
      kept_by (λ c e. (kept.left_below i j c (was c e), kept.right_below i j c (was c e), kept.truth i j c (was c e))) kept)
      (cases_both (cases_below i n.order) (cases_below j n.order))

-- kept products are true of any recogniser with the same meaning and indexes
pub kept_same : {E : Type 0} {m v : Meaning E} {n w : Small E} (p : Products) → v ≡ m → w ≡ n → Kept m n p → Kept v w p
kept_same {E} {m} {v} {n} {w} p e f kept = subst (λ (s : Small E). Kept v s p) (sym f) (subst (λ (u : Meaning E). Kept u n p) (sym e) kept)

module _ {E : Type 0} {m : Meaning E} {n : Small E} (laws : Lawful m) (undone : Undone m n) where
  -- the product of two indexes is an index
  product_below : (i j : ℕ) → i < n.order → j < n.order → (on_indexes m n).mul i j < n.order
  product_below i j hi hj =
      let x = n.element i in
      let y = n.element j in
      undone.index_below (m.mul x y) (laws.sound_mul x y (undone.element_sound i hi) (undone.element_sound j hj))

  -- the product k of two indexes is kept by a recogniser with the same indexes
  pub asked_found : {w : Small E} → w ≡ n → (after : Products) (i j k : ℕ) → (i < n.order → j < n.order → k ≡ (on_indexes m n).mul i j) → (i < w.order → j < w.order → k < w.order → found after i j ≡ Some k) → i < n.order → j < n.order → found after i j ≡ Some k
  asked_found {w} steady after i j k k_is keep hi hj =
      let below : k < n.order = subst (λ c. c < n.order) (sym (k_is hi hj)) (product_below i j hi hj) in
      subst (λ (s : Small E). i < s.order → j < s.order → k < s.order → found after i j ≡ Some k) steady keep hi hj below
