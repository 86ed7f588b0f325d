-- What trees of the same rows at the same places have in common.
use Rattle.std.proofs.Common.{◌≡◌, ℕ, ◌-◌, ◌<◌, ◌≤◌, ◌∷◌, ◌++◌, Some, sym, refl, ap, ◌∙◌, inl, inr, arith}
use Rattle.rows.specs.declared.kind.Kind.{Kind}
use Rattle.monoid.specs.Meaning.{Meaning}
use Rattle.monoid.specs.Words.{image_of}
use Rattle.monoid.specs.Laws.{Lawful}
use Rattle.monoid.proofs.Words.{image_sound}
use Rattle.cells.specs.Trees.{Tree, leaf, node, link, size, height, rows, count, here, cell, Balanced}
use Rattle.cells.specs.Truth.{True}
use Rattle.cells.proofs.Frame.{here_same}
use Rattle.whole.specs.Ranks.{Ranked}
use Rattle.whole.specs.Renewing.{Alike, anew, Sounds, Done}

module _ {E : Type 0} where
  pub alike_same : (t : Tree E) → Alike t t
  alike_same leaf = tt
  alike_same (node l i k p r) = (alike_same l, refl, refl, alike_same r)

  pub alike_then : (t u v : Tree E) → Alike t u → Alike u v → Alike t v
  alike_then leaf leaf v a b = b
  alike_then leaf (node l' i' k' p' r') v a b = absurd a
  alike_then (node l i k p r) leaf v a b = absurd a
  alike_then (node l i k p r) (node l' i' k' p' r') leaf a b = absurd b
  alike_then (node l i k p r) (node l' i' k' p' r') (node l'' i'' k'' p'' r'') a b = (alike_then l l' l'' a.0 b.0, a.1 ∙ b.1, a.2 ∙ b.2, alike_then r r' r'' a.3 b.3)

  pub record Common (t u : Tree E) : Type 0 where
    pub links : link u ≡ link t
    pub sizes : size u ≡ size t
    pub heights : height u ≡ height t
    pub words : rows u ≡ rows t
    pub counts : (q : ℕ) → count q u ≡ count q t

  pub common : (t u : Tree E) → Alike t u → Common t u
  common leaf leaf a = record { links = refl; sizes = refl; heights = refl; words = refl; counts = λ q. refl }
  common leaf (node l' i' k' p' r') a = absurd a
  common (node l i k p r) leaf a = absurd a
  common (node l i k p r) (node l' i' k' p' r') a =
      let b = common l l' a.0 in
      let d = common r r' a.3 in
      let bs = b.sizes in let ds = d.sizes in let bh = b.heights in let dh = d.heights in let bw = b.words in let dw = d.words in
      let ei = a.1 in let ek = a.2 in
      record { links = ap Some (sym ei); sizes = omega arith; heights = omega arith; words = cc; counts = λ q. let f = b.counts q in let h = d.counts q in let e : here q i ≡ here q i' = ap (here q) ei in omega arith }

  pub balanced_alike : (t u : Tree E) → Alike t u → Balanced t → Balanced u
  balanced_alike leaf leaf a b = tt
  balanced_alike leaf (node l' i' k' p' r') a b = absurd a
  balanced_alike (node l i k p r) leaf a b = absurd a
  balanced_alike (node l i k p r) (node l' i' k' p' r') a b =
      let x = (common l l' a.0).heights in
      let y = (common r r' a.3).heights in
      let e = b.0 in
      ((omega arith, omega arith), balanced_alike l l' a.0 b.1, balanced_alike r r' a.3 b.2)

  -- the cell of a row has of its sides only what they have in common
  pub cell_alike : (l l' r r' : Tree E) (k : Kind) (p : E) → Alike l l' → Alike r r' → cell l k p r ≡ cell l' k p r'
  cell_alike l l' r r' k p a b =
      let x = common l l' a in
      let y = common r r' b in
      let x1 = x.links in let y1 = y.links in let x2 = x.sizes in let y2 = y.sizes in let x3 = x.heights in let y3 = y.heights in
      cc

  pub ranked_in : (t : Tree E) (n j : ℕ) → Ranked t n j → 0 < count j t
  ranked_in leaf n j h = absurd h
  ranked_in (node l i k p r) n j (inl h) = let a = ranked_in l n j h.1 in omega arith
  ranked_in (node l i k p r) n j (inr (inl h)) = let a = ranked_in r (n - size l) j h.2 in omega arith
  ranked_in (node l i k p r) n j (inr (inr h)) = let a = here_same j in let e : here j j ≡ here j i = ap (here j) h.1 in omega arith

module _ {E : Type 0} (m : Meaning E) where
  pub done_none : (t : Tree E) (n : ℕ) → n ≡ 0 → Done m n t
  done_none leaf n e = tt
  done_none (node l i k p r) n e = (done_none l n e, done_none r (n - size l) (omega arith), λ h. absurd (omega arith))

  pub done_true : (t : Tree E) (n : ℕ) → size t ≤ n → Done m n t → True m t
  done_true leaf n h d = tt
  done_true (node l i k p r) n h d = (d.2 (omega arith), done_true l n (omega arith) d.0, done_true r (n - size l) (omega arith) d.1)

  pub true_done : (t : Tree E) (n : ℕ) → True m t → Done m n t
  true_done leaf n d = tt
  true_done (node l i k p r) n d = (true_done l n d.1, true_done r (n - size l) d.2, λ h. d.0)

  -- a tree alike with true products is the tree anew
  pub anew_is : (t u : Tree E) → Alike t u → True m u → u ≡ anew m t
  anew_is leaf leaf a d = refl
  anew_is leaf (node l' i' k' p' r') a d = absurd a
  anew_is (node l i k p r) leaf a d = absurd a
  anew_is (node l i k p r) (node l' i' k' p' r') a d =
      let x = anew_is l l' a.0 d.1 in
      let y = anew_is r r' a.3 d.2 in
      let wl = (common l l' a.0).words in
      let wr = (common r r' a.3).words in
      let ei = a.1 in let ek = a.2 in let ep = d.0 in
      let e : p' ≡ image_of m (rows l ++ (k ∷ rows r)) = ep ∙ ap (λ w. image_of m (w ++ (k' ∷ rows r'))) wl ∙ ap (λ w. image_of m (rows l ++ (k' ∷ w))) wr ∙ ap (λ v. image_of m (rows l ++ (v ∷ rows r))) (sym ek) in
      ap (λ v. node v i' k' p' r') x ∙ ap (λ v. node (anew m l) v k' p' r') (sym ei) ∙ ap (λ v. node (anew m l) i v p' r') (sym ek) ∙ ap (λ v. node (anew m l) i k v r') e ∙ ap (λ v. node (anew m l) i k (image_of m (rows l ++ (k ∷ rows r))) v) y

  pub true_sound : Lawful m → (t : Tree E) → True m t → Sounds m t
  true_sound laws leaf d = tt
  true_sound laws (node l i k p r) d = (ap m.sound d.0 ∙ image_sound laws (rows l ++ (k ∷ rows r)), true_sound laws l d.1, true_sound laws r d.2)
