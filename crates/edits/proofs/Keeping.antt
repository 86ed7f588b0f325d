-- What replacing the kind of a row keeps.
use Rattle.std.proofs.Common.{◌≡◌, ℕ, suc, ◌+◌, ◌-◌, ◌<◌, ◌∷◌, ◌++◌, set, sym, refl, ap, ◌∙◌, subst, inl, inr, ⊎_elim, arith}
use Rattle.std.proofs.lemmas.List.{set_at, set-append_left, set-append_right}
use Rattle.rows.specs.declared.kind.Kind.{Kind}
use Rattle.cells.specs.Trees.{Tree, leaf, node, link, rows, size, height, Balanced, count}
use Rattle.cells.proofs.Frame.{rows_long}
use Rattle.edits.specs.Replaces.{Replaced}

-- the tree with another kind stands in the same cells, and is as high and as large
pub record Kept {E : Type 0} (t : Tree E) (n : ℕ) (k : Kind) (u : Tree E) : Type 0 where
  pub within : n < size t
  pub root : link u ≡ link t
  pub high : height u ≡ height t
  pub wide : size u ≡ size t
  pub places : (q : ℕ) → count q u ≡ count q t
  pub balance : Balanced t → Balanced u
  pub word : rows u ≡ set (rows t) n k

module _ {E : Type 0} (l : Tree E) (i : ℕ) (was : Kind) (p q : E) (r : Tree E) (n : ℕ) (k : Kind) where
  kept_left : (l' : Tree E) → Kept l n k l' → Kept (node l i was p r) n k (node l' i was q r)
  kept_left l' c =
      let high = c.high in
      let wide = c.wide in
      let within = c.within in
      let long = rows_long l in
      record {
        within = omega arith;
        root = refl;
        high = omega arith;
        wide = omega arith;
        places = λ z. let e = c.places z in omega arith;
        balance = λ b. let b₁ = b.0.0 in let b₂ = b.0.1 in ((omega arith, omega arith), c.balance b.1, b.2);
        word = ap (λ v. v ++ (was ∷ rows r)) c.word ∙ sym (set-append_left (rows l) (was ∷ rows r) n k (omega arith));
      }

  kept_here : n ≡ size l → Kept (node l i was p r) n k (node l i k q r)
  kept_here e = record {
    within = omega arith;
    root = refl;
    high = refl;
    wide = refl;
    places = λ z. refl;
    balance = λ b. b;
    word = sym (set_at (rows l) was (rows r) k n (rows_long l ∙ sym e));
  }

  kept_right : (r' : Tree E) → size l < n → Kept r (n - size l - 1) k r' → Kept (node l i was p r) n k (node l i was q r')
  kept_right r' lt c =
      let high = c.high in
      let wide = c.wide in
      let within = c.within in
      let j = n - size l - 1 in
      let e : n - size l ≡ suc j = omega arith in
      record {
        within = omega arith;
        root = refl;
        high = omega arith;
        wide = omega arith;
        places = λ z. let e = c.places z in omega arith;
        balance = λ b. let b₁ = b.0.0 in let b₂ = b.0.1 in ((omega arith, omega arith), b.1, c.balance b.2);
        word = ap (λ v. rows l ++ (was ∷ v)) c.word ∙ ap (λ v. rows l ++ set (was ∷ rows r) v k) (sym e) ∙ sym (set-append_right (rows l) (was ∷ rows r) (size l) n k (rows_long l) (omega arith));
      }

pub replaced_kept : {E : Type 0} (t : Tree E) (n : ℕ) (k : Kind) (u : Tree E) → Replaced t n k u → Kept t n k u
replaced_kept leaf n k u d = absurd d
replaced_kept (node l i was p r) n k u d =
    ⊎_elim
    (λ a. subst (λ v. Kept (node l i was p r) n k v) (sym a.1.3) (kept_left l i was p a.1.1 r n k a.1.0 (replaced_kept l n k a.1.0 a.1.2)))
    (λ b. ⊎_elim
    (λ c. subst (λ v. Kept (node l i was p r) n k v) (sym c.1.1) (kept_here l i was p c.1.0 r n k c.0))
    (λ c. subst (λ v. Kept (node l i was p r) n k v) (sym c.1.3) (kept_right l i was p c.1.1 r n k c.1.0 c.0 (replaced_kept r (n - size l - 1) k c.1.0 c.1.2)))
    b)
    d

-- a row replaced in a subtree is replaced in the tree over it
module _ {E : Type 0} (i : ℕ) (was : Kind) (p q : E) (n : ℕ) (k : Kind) where
  pub replaced_left : (s s' r : Tree E) → Replaced s n k s' → Replaced (node s i was p r) n k (node s' i was q r)
  replaced_left s s' r d = inl ((replaced_kept s n k s' d).within, (s', q, d, refl))

  pub replaced_here : (l r : Tree E) → n ≡ size l → Replaced (node l i was p r) n k (node l i k q r)
  replaced_here l r e = inr (inl (e, (q, refl)))

  pub replaced_right : (l s s' : Tree E) (z : ℕ) → z ≡ n + (size l + 1) → Replaced s n k s' → Replaced (node l i was p s) z k (node l i was q s')
  replaced_right l s s' z e d =
      let eq : n ≡ z - size l - 1 = omega arith in
      inr (inr (omega arith, (s', q, subst (λ v. Replaced s v k s') eq d, refl)))
