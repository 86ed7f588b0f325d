-- The row of a rank, and the tree when that row stores another product.
use Rattle.std.proofs.Common.{◌≡◌, ℕ, ◌+◌, ◌-◌, ◌<◌, ◌≢◌, List, ◌∷◌, ◌++◌, Some, sym, refl, ap, ◌∙◌, subst, inl, inr, arith}
use Rattle.std.specs.List.{slice_get}
use Rattle.rows.specs.declared.kind.Kind.{Kind}
use Rattle.monoid.specs.Meaning.{Meaning}
use Rattle.monoid.specs.Words.{image_of}
use Rattle.cells.specs.declared.cell.Cell.{Cell}
use Rattle.cells.specs.Trees.{Tree, leaf, node, size, rows, count, here, cell, At, Stands, Distinct}
use Rattle.cells.specs.Truth.{True}
use Rattle.cells.proofs.Frame.{here_same, stands_kept}
use Rattle.whole.specs.Ranks.{Ranked}
use Rattle.whole.specs.Renewing.{Alike, Done}
use Rattle.whole.proofs.Likeness.{alike_same, common, cell_alike, ranked_in, done_none, done_true, true_done}

module _ {E : Type 0} (m : Meaning E) (x : List (Cell E)) where
  pub record Turn (n : ℕ) (u : Tree E) (j : ℕ) : Type 0 where
    pub l : Tree E
    pub k : Kind
    pub p : E
    pub r : Tree E
    pub stands : Stands x (node l j k p r)
    pub next : E → Tree E
    pub alike : (v : E) → Alike u (next v)
    pub written : (v : E) (y : List (Cell E)) → At y j (cell l k v r) → ((q : ℕ) → q ≢ j → slice_get y q ≡ slice_get x q) → Stands y (next v)
    pub sides : Done m n u → True m l × True m r
    pub done : (v : E) → v ≡ image_of m (rows l ++ (k ∷ rows r)) → Done m n u → Done m (n + 1) (next v)

  pub turn : (u : Tree E) (n j : ℕ) → Stands x u → Distinct u → Ranked u (n + 1) j → Turn n u j
  turn leaf n j s ds h = absurd h
  turn (node l i k p r) n j s ds (inl h) =
      let h0 = h.0 in
      let t = turn l n j s.1 (λ q. let a = ds q in omega arith) h.1 in
      let ne : i ≢ j = (λ e. let a = ds j in let b = ranked_in l (n + 1) j h.1 in let o = here_same j in let f : here j i ≡ here j j = ap (here j) e in omega arith) in
      let nr : (q : ℕ) → 0 < count q r → q ≢ j = (λ q lt e. let a = ds j in let b = ranked_in l (n + 1) j h.1 in let f : count q r ≡ count j r = ap (λ (v : ℕ). count v r) e in omega arith) in
      record {
        l = t.l;
        k = t.k;
        p = t.p;
        r = t.r;
        stands = t.stands;
        next = λ v. node (t.next v) i k p r;
        alike = λ v. (t.alike v, refl, refl, alike_same r);
        written = λ v y a b. (b i ne ∙ s.0 ∙ ap Some (cell_alike l (t.next v) r r k p (t.alike v) (alike_same r)), t.written v y a b, stands_kept x y r (λ q lt. b q (nr q lt)) s.2);
        sides = λ d. t.sides d.0;
        done = λ v e d. let z = (common l (t.next v) (t.alike v)).sizes in (t.done v e d.0, done_none m r (n + 1 - size (t.next v)) (omega arith), λ lt. absurd (omega arith));
      }
  turn (node l i k p r) n j s ds (inr (inl h)) =
      let h0 = h.0 in
      let h1 = h.1 in
      let en : n + 1 - size l ≡ n - size l + 1 = omega arith in
      let hr : Ranked r (n - size l + 1) j = subst (λ (v : ℕ). Ranked r v j) en h.2 in
      let t = turn r (n - size l) j s.2 (λ q. let a = ds q in omega arith) hr in
      let ne : i ≢ j = (λ e. let a = ds j in let b = ranked_in r (n - size l + 1) j hr in let o = here_same j in let f : here j i ≡ here j j = ap (here j) e in omega arith) in
      let nl : (q : ℕ) → 0 < count q l → q ≢ j = (λ q lt e. let a = ds j in let b = ranked_in r (n - size l + 1) j hr in let f : count q l ≡ count j l = ap (λ (v : ℕ). count v l) e in omega arith) in
      record {
        l = t.l;
        k = t.k;
        p = t.p;
        r = t.r;
        stands = t.stands;
        next = λ v. node l i k p (t.next v);
        alike = λ v. (alike_same l, refl, refl, t.alike v);
        written = λ v y a b. (b i ne ∙ s.0 ∙ ap Some (cell_alike l l r (t.next v) k p (alike_same l) (t.alike v)), stands_kept x y l (λ q lt. b q (nl q lt)) s.1, t.written v y a b);
        sides = λ d. t.sides d.1;
        done = λ v e d. let z = (common r (t.next v) (t.alike v)).sizes in (true_done m l (n + 1) (done_true m l n (omega arith) d.0), subst (λ (w : ℕ). Done m w (t.next v)) (sym en) (t.done v e d.1), λ lt. absurd (omega arith));
      }
  turn (node l i k p r) n j s ds (inr (inr h)) =
      let h0 = h.0 in
      let ej : j ≡ i = h.1 in
      let one = here_same j in
      let o : here j j ≡ here j i = ap (here j) ej in
      let dj = ds j in
      let nl : (q : ℕ) → 0 < count q l → q ≢ j = (λ q lt e. let f : count q l ≡ count j l = ap (λ (v : ℕ). count v l) e in omega arith) in
      let nr : (q : ℕ) → 0 < count q r → q ≢ j = (λ q lt e. let f : count q r ≡ count j r = ap (λ (v : ℕ). count v r) e in omega arith) in
      let both : Done m n (node l i k p r) → True m l × True m r = (λ d. (done_true m l n (omega arith) d.0, done_true m r (n - size l) (omega arith) d.1)) in
      record {
        l = l;
        k = k;
        p = p;
        r = r;
        stands = (ap (slice_get x) ej ∙ s.0, s.1, s.2);
        next = λ v. node l i k v r;
        alike = λ v. (alike_same l, refl, refl, alike_same r);
        written = λ v y a b. (ap (slice_get y) (sym ej) ∙ a, stands_kept x y l (λ q lt. b q (nl q lt)) s.1, stands_kept x y r (λ q lt. b q (nr q lt)) s.2);
        sides = both;
        done = λ v e d. true_done m (node l i k v r) (n + 1) (e, (both d).0, (both d).1);
      }
