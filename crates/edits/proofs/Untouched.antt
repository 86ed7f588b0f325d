-- A replaced row leaves the products of the rows whose stretch does not hold it.
use Rattle.std.proofs.Common.{◌≡◌, ℕ, zero, suc, ◌-◌, ◌<◌, List, [], ◌∷◌, ◌++◌, length, sym, refl, ap, ◌∙◌, subst, inl, inr, ⊎_elim, arith, length-append}
use Rattle.std.specs.List.{slice_get}
use Rattle.std.proofs.lemmas.Bool.{cases_lt}
use Rattle.rows.specs.declared.kind.Kind.{Kind}
use Rattle.cells.specs.Trees.{Tree, leaf, node, size}
use Rattle.edits.specs.Products.{products, Holds}
use Rattle.edits.specs.Replaces.{Replaced}
use Rattle.edits.proofs.Keeping.{replaced_kept}

module _ {X : Type 0} where
  nth_front : (a b : List X) (j : ℕ) → j < length a → slice_get (a ++ b) j ≡ slice_get a j
  nth_front [] b j h = absurd (omega arith)
  nth_front (x ∷ a) b zero h = refl
  nth_front (x ∷ a) b (suc j) h = nth_front a b j (omega arith)

  nth_behind : (a : List X) (x : X) (b : List X) (j : ℕ) → length a < j → slice_get (a ++ (x ∷ b)) j ≡ slice_get b (j - length a - 1)
  nth_behind [] x b zero h = absurd (omega arith)
  nth_behind [] x b (suc j) h = ap (slice_get b) (omega arith)
  nth_behind (y ∷ a) x b zero h = absurd (omega arith)
  nth_behind (y ∷ a) x b (suc j) h = nth_behind a x b j (omega arith) ∙ ap (slice_get b) (omega arith)

products_long : {E : Type 0} (t : Tree E) → length (products t) ≡ size t
products_long leaf = omega arith
products_long (node l i k p r) = let a = products_long l in let b = products_long r in simp length-append (omega arith)

-- the products of a node on the left of its root and on the right
module _ {E : Type 0} (l : Tree E) (i : ℕ) (k : Kind) (p : E) (r : Tree E) (j : ℕ) where
  on_the_left : j < size l → slice_get (products (node l i k p r)) j ≡ slice_get (products l) j
  on_the_left lt = let long = products_long l in nth_front (products l) (p ∷ products r) j (omega arith)

  on_the_right : size l < j → slice_get (products (node l i k p r)) j ≡ slice_get (products r) (j - size l - 1)
  on_the_right lt = let long = products_long l in nth_behind (products l) p (products r) j (omega arith) ∙ ap (slice_get (products r)) (omega arith)

-- by the place of a row beside the root
three_ways : {A : Type 0} (j s : ℕ) → (j < s → A) → (j ≡ s → A) → (s < j → A) → A
three_ways j s below here above = ⊎_elim below (λ ge. ⊎_elim above (λ le. here (omega arith)) (cases_lt s j)) (cases_lt j s)

pub untouched : {E : Type 0} (t : Tree E) (n : ℕ) (k : Kind) (u : Tree E) → Replaced t n k u → (j : ℕ) → (Holds t j n → ⊥) → slice_get (products u) j ≡ slice_get (products t) j
untouched leaf n k u d j apart = absurd d
untouched {E} (node l i was p r) n k u d j apart =
    let within = (replaced_kept (node l i was p r) n k u d).within in
    let goal : Tree E → Type 0 = λ v. slice_get (products v) j ≡ slice_get (products (node l i was p r)) j in
    ⊎_elim
    (λ a.
    let l' = a.1.0 in
    let q = a.1.1 in
    let wide = (replaced_kept l n k l' a.1.2).wide in
    subst goal (sym a.1.3) (three_ways j (size l)
    (λ lt. on_the_left l' i was q r j (omega arith) ∙ untouched l n k l' a.1.2 j (λ h. apart (inl (lt, a.0, h))) ∙ sym (on_the_left l i was p r j lt))
    (λ eq. absurd (apart (inr (inl (eq, within)))))
    (λ gt. on_the_right l' i was q r j (omega arith) ∙ ap (λ v. slice_get (products r) (j - v - 1)) wide ∙ sym (on_the_right l i was p r j gt))))
    (λ b. ⊎_elim
    (λ a. subst goal (sym a.1.1) (three_ways j (size l)
    (λ lt. on_the_left l i k a.1.0 r j lt ∙ sym (on_the_left l i was p r j lt))
    (λ eq. absurd (apart (inr (inl (eq, within)))))
    (λ gt. on_the_right l i k a.1.0 r j gt ∙ sym (on_the_right l i was p r j gt))))
    (λ a.
    let r' = a.1.0 in
    let q = a.1.1 in
    subst goal (sym a.1.3) (three_ways j (size l)
    (λ lt. on_the_left l i was q r' j lt ∙ sym (on_the_left l i was p r j lt))
    (λ eq. absurd (apart (inr (inl (eq, within)))))
    (λ gt. on_the_right l i was q r' j gt ∙ untouched r (n - size l - 1) k r' a.1.2 (j - size l - 1) (λ h. apart (inr (inr (gt, a.0, h)))) ∙ sym (on_the_right l i was p r j gt))))
    b)
    d
