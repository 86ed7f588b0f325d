-- The subtrees of which every row is copied, and their copies.
use Rattle.std.proofs.Common.{◌≡◌, ℕ, ◌+◌, ◌-◌, ◌<◌, ◌≤◌, Bool, cond, List, [], ◌∷◌, ◌++◌, length, sym, refl, ap, ◌∙◌, subst, inl, inr, ⊎_elim, arith, length-append}
use Rattle.std.specs.List.{slice_get}
use Rattle.std.proofs.lemmas.Bool.{cases_lt, lt-ltb, le-ltb}
use Rattle.rows.specs.declared.kind.Kind.{Kind}
use Rattle.monoid.specs.Meaning.{Meaning}
use Rattle.cells.specs.declared.cell.Cell.{Cell}
use Rattle.cells.specs.Trees.{Tree, leaf, node, link, height, size, rows, count, cell, At, Stands, Balanced}
use Rattle.cells.specs.Truth.{True}
use Rattle.unused.specs.Piles.{above}
use Rattle.unused.specs.Freeing.{sum, roots, Stood}
use Rattle.whole.specs.Ranks.{Ranked}
use Rattle.whole.specs.Copying.{Same, Both}
use Rattle.whole.specs.CopyRuns.{Sames, onto, wholes}

module _ {E : Type 0} where
  -- a node that is whole, or not yet
  whole_yes : (l : Tree E) (i : ℕ) (k : Kind) (p : E) (r : Tree E) (n : ℕ) → size l + size r < n → wholes n (node l i k p r) ≡ node l i k p r ∷ []
  whole_yes l i k p r n h = ap (λ (b : Bool). cond b (node l i k p r ∷ []) (wholes (n - size l) r ++ wholes n l)) (lt-ltb (size l + size r) n h)

  whole_no : (l : Tree E) (i : ℕ) (k : Kind) (p : E) (r : Tree E) (n : ℕ) → n ≤ size l + size r → wholes n (node l i k p r) ≡ wholes (n - size l) r ++ wholes n l
  whole_no l i k p r n h = ap (λ (b : Bool). cond b (node l i k p r ∷ []) (wholes (n - size l) r ++ wholes n l)) (le-ltb (size l + size r) n h)

  pub wholes-none : (t : Tree E) (n : ℕ) → n ≡ 0 → wholes n t ≡ []
  wholes-none leaf n e = refl
  wholes-none (node l i k p r) n e =
      let a = wholes-none r (n - size l) (omega arith) in
      let b = wholes-none l n e in
      whole_no l i k p r n (omega arith) ∙ ap (λ (v : List (Tree E)). v ++ wholes n l) a ∙ b

  pub wholes_all : (t : Tree E) (n : ℕ) → size t ≤ n → wholes n t ≡ onto t []
  wholes_all leaf n h = refl
  wholes_all (node l i k p r) n h = whole_yes l i k p r n (omega arith)

  onto_long : (t : Tree E) (ts : List (Tree E)) → length (onto t ts) ≤ 1 + length ts
  onto_long leaf ts = omega arith
  onto_long (node l i k p r) ts = omega arith

  pub wholes_long : (t : Tree E) (n : ℕ) → length (wholes n t) ≤ height t
  wholes_long leaf n = omega arith
  wholes_long (node l i k p r) n =
      ⊎_elim
      (λ lt. let e = ap (λ (v : List (Tree E)). length v) (whole_yes l i k p r n lt) in omega arith)
      (λ le.
      let e = ap (λ (v : List (Tree E)). length v) (whole_no l i k p r n le) in
      let f = length-append (wholes (n - size l) r) (wholes n l) in
      let a = wholes_long r (n - size l) in
      let b = wholes_long l n in
      ⊎_elim
      (λ lt. let c = ap (λ (v : List (Tree E)). length v) (wholes_all l n (omega arith)) in let d = onto_long l [] in omega arith)
      (λ ge. let c = ap (λ (v : List (Tree E)). length v) (wholes-none r (n - size l) (omega arith)) in omega arith)
      (cases_lt (size l) n))
      (cases_lt (size l + size r) n)

  onto-append : (t : Tree E) (a b : List (Tree E)) → onto t a ++ b ≡ onto t (a ++ b)
  onto-append leaf a b = refl
  onto-append (node l i k p r) a b = refl

  -- the row to copy next, with the subtrees that are whole before and after
  pub record Row (x : List (Cell E)) (t : Tree E) (d j : ℕ) : Type 0 where
    pub l : Tree E
    pub k : Kind
    pub p : E
    pub r : Tree E
    pub rest : List (Tree E)
    pub before : wholes d t ≡ onto r (onto l rest)
    pub after : wholes (d + 1) t ≡ node l j k p r ∷ rest
    pub stands : At x j (cell l k p r)

  pub row : (x : List (Cell E)) (t : Tree E) (d j : ℕ) → Stands x t → Ranked t (d + 1) j → Row x t d j
  row x leaf d j s h = absurd h
  row x (node l i k p r) d j s (inl h) =
      let h0 = h.0 in
      let w = row x l d j s.1 h.1 in
      let a = wholes-none r (d - size l) (omega arith) in
      let b = wholes-none r (d + 1 - size l) (omega arith) in
      record {
        l = w.l;
        k = w.k;
        p = w.p;
        r = w.r;
        rest = w.rest;
        before = whole_no l i k p r d (omega arith) ∙ ap (λ (v : List (Tree E)). v ++ wholes d l) a ∙ w.before;
        after = whole_no l i k p r (d + 1) (omega arith) ∙ ap (λ (v : List (Tree E)). v ++ wholes (d + 1) l) b ∙ w.after;
        stands = w.stands;
      }
  row x (node l i k p r) d j s (inr (inl h)) =
      let h0 = h.0 in let h1 = h.1 in
      let en : d + 1 - size l ≡ d - size l + 1 = omega arith in
      let w = row x r (d - size l) j s.2 (subst (λ (v : ℕ). Ranked r v j) en h.2) in
      let ld : wholes d l ≡ onto l [] = wholes_all l d (omega arith) in
      let le : wholes (d + 1) l ≡ onto l [] = wholes_all l (d + 1) (omega arith) in
      record {
        l = w.l;
        k = w.k;
        p = w.p;
        r = w.r;
        rest = w.rest ++ onto l [];
        before = whole_no l i k p r d (omega arith) ∙ ap (λ (v : List (Tree E)). wholes (d - size l) r ++ v) ld ∙ ap (λ (v : List (Tree E)). v ++ onto l []) w.before ∙ onto-append w.r (onto w.l w.rest) (onto l []) ∙ ap (onto w.r) (onto-append w.l w.rest (onto l []));
        after = whole_no l i k p r (d + 1) (omega arith) ∙ ap (λ (v : List (Tree E)). wholes (d + 1 - size l) r ++ v) le ∙ ap (λ (v : ℕ). wholes v r ++ onto l []) en ∙ ap (λ (v : List (Tree E)). v ++ onto l []) w.after;
        stands = w.stands;
      }
  row x (node l i k p r) d j s (inr (inr h)) =
      let h0 = h.0 in
      let a = wholes_all r (d - size l) (omega arith) in
      let b = wholes_all l d (omega arith) in
      record {
        l = l;
        k = k;
        p = p;
        r = r;
        rest = [];
        before = whole_no l i k p r d (omega arith) ∙ ap (λ (v : List (Tree E)). v ++ wholes d l) a ∙ ap (λ (v : List (Tree E)). onto r [] ++ v) b ∙ onto-append r [] (onto l []);
        after = whole_yes l i k p r (d + 1) (omega arith) ∙ ap (λ (v : ℕ). node l v k p r ∷ []) (sym h.1);
        stands = ap (slice_get x) h.1 ∙ s.0;
      }

  pub same_links : (t u : Tree E) → Same t u → Both (link t) (link u)
  same_links leaf leaf a = tt
  same_links leaf (node l' i' k' p' r') a = absurd a
  same_links (node l i k p r) leaf a = absurd a
  same_links (node l i k p r) (node l' i' k' p' r') a = tt

  pub same_sizes : (t u : Tree E) → Same t u → (size u ≡ size t) × (height u ≡ height t)
  same_sizes leaf leaf a = (refl, refl)
  same_sizes leaf (node l' i' k' p' r') a = absurd a
  same_sizes (node l i k p r) leaf a = absurd a
  same_sizes (node l i k p r) (node l' i' k' p' r') a =
      let b = same_sizes l l' a.0 in let c = same_sizes r r' a.3 in
      (omega arith, omega arith)

  -- the copy of the first
  pub record Split (t : Tree E) (ts cs : List (Tree E)) : Type 0 where
    pub first : Tree E
    pub rest : List (Tree E)
    pub are : cs ≡ onto first rest
    pub same : Same t first
    pub sames : Sames ts rest

  pub split : (t : Tree E) (ts cs : List (Tree E)) → Sames (onto t ts) cs → Split t ts cs
  split leaf ts cs h = record { first = leaf; rest = cs; are = refl; same = tt; sames = h }
  split (node l i k p r) ts [] h = absurd h
  split (node l i k p r) ts (leaf ∷ cs) h = absurd h.0
  split (node l i k p r) ts (node l' i' k' p' r' ∷ cs) h = record { first = node l' i' k' p' r'; rest = cs; are = refl; same = h.0; sames = h.1 }

  pub sames_none : (cs : List (Tree E)) → Sames [] cs → cs ≡ []
  sames_none [] h = refl
  sames_none (c ∷ cs) h = absurd h

  pub roots-onto : (t : Tree E) (ts : List (Tree E)) → roots (onto t ts) ≡ above (link t) (roots ts)
  roots-onto leaf ts = refl
  roots-onto (node l i k p r) ts = refl

  pub sum-onto : (q : ℕ) (t : Tree E) (ts : List (Tree E)) → sum (count q) (onto t ts) ≡ count q t + sum (count q) ts
  sum-onto q leaf ts = omega arith
  sum-onto q (node l i k p r) ts = refl

  pub stood_onto : (x : List (Cell E)) (t : Tree E) (ts : List (Tree E)) → Stood x (onto t ts) → Stands x t × Stood x ts
  stood_onto x leaf ts s = (tt, s)
  stood_onto x (node l i k p r) ts s = s

  pub roots_long : (ts cs : List (Tree E)) → Sames ts cs → length (roots cs) ≤ length ts
  roots_long [] [] h = omega arith
  roots_long [] (c ∷ cs) h = absurd h
  roots_long (t ∷ ts) [] h = absurd h
  roots_long (t ∷ ts) (leaf ∷ cs) h = let a = roots_long ts cs h.1 in omega arith
  roots_long (t ∷ ts) (node l i k p r ∷ cs) h = let a = roots_long ts cs h.1 in omega arith

-- what a copy has of its source
module _ {E : Type 0} where
  pub same_rows : (t u : Tree E) → Same t u → rows u ≡ rows t
  same_rows leaf leaf a = refl
  same_rows leaf (node l' i' k' p' r') a = absurd a
  same_rows (node l i k p r) leaf a = absurd a
  same_rows (node l i k p r) (node l' i' k' p' r') a = let b = same_rows l l' a.0 in let c = same_rows r r' a.3 in let e = a.1 in cc

  pub same_true : (m : Meaning E) (t u : Tree E) → Same t u → True m t → True m u
  same_true m leaf leaf a h = tt
  same_true m leaf (node l' i' k' p' r') a h = absurd a
  same_true m (node l i k p r) leaf a h = absurd a
  same_true m (node l i k p r) (node l' i' k' p' r') a h =
      let b = same_rows l l' a.0 in let c = same_rows r r' a.3 in let e = a.1 in let f = a.2 in let g = h.0 in
      (cc, same_true m l l' a.0 h.1, same_true m r r' a.3 h.2)

  pub same_balanced : (t u : Tree E) → Same t u → Balanced t → Balanced u
  same_balanced leaf leaf a b = tt
  same_balanced leaf (node l' i' k' p' r') a b = absurd a
  same_balanced (node l i k p r) leaf a b = absurd a
  same_balanced (node l i k p r) (node l' i' k' p' r') a b =
      let x = same_sizes l l' a.0 in
      let y = same_sizes r r' a.3 in
      let e = b.0 in
      ((omega arith, omega arith), same_balanced l l' a.0 b.1, same_balanced r r' a.3 b.2)
