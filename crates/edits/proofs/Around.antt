-- The rows before and behind a subtree, and edits of the rows in between.
use Rattle.std.proofs.Common.{◌≡◌, ℕ, ◌+◌, List, [], ◌∷◌, ◌++◌, length, take, drop, sym, refl, ap, ◌∙◌, append_assoc, arith, length-append}
use Rattle.std.proofs.lemmas.List.{append-nil, take_at, drop_at}
use Rattle.rows.specs.declared.kind.Kind.{Kind}
use Rattle.monoid.specs.Words.{Word}
use Rattle.cells.specs.Trees.{Tree, leaf, node, size, rows}
use Rattle.cells.proofs.Frame.{rows_long}
use Rattle.climb.specs.Frames.{Frame, on_left, on_right, plug, before}

abbrev pub ahead : {E : Type 0} → List (Frame E) → Word
ahead [] = []
ahead (on_left i k p r ∷ up) = ahead up
ahead (on_right l i k p ∷ up) = ahead up ++ (rows l ++ (k ∷ []))

abbrev pub behind : {E : Type 0} → List (Frame E) → Word
behind [] = []
behind (on_left i k p r ∷ up) = (k ∷ rows r) ++ behind up
behind (on_right l i k p ∷ up) = behind up

drop_one : (a : Word) (k : Kind) (b : Word) (n : ℕ) → length a ≡ n → drop (n + 1) (a ++ (k ∷ b)) ≡ b
drop_one a k b n e = ap (drop (n + 1)) (sym (append_assoc a (k ∷ []) b)) ∙ drop_at (a ++ (k ∷ [])) b (n + 1) (length-append a (k ∷ []) ∙ omega arith)

none_long : (w : Word) → length w ≡ 0 → w ≡ []
none_long [] h = refl
none_long (k ∷ w) h = absurd (omega arith)

module _ {E : Type 0} where
  pub rows-plug : (up : List (Frame E)) (s : Tree E) → rows (plug up s) ≡ ahead up ++ (rows s ++ behind up)
  rows-plug [] s = sym (append-nil (rows s))
  rows-plug (on_left i k p r ∷ up) s = rows-plug up (node s i k p r) ∙ simp append_assoc
  rows-plug (on_right l i k p ∷ up) s = rows-plug up (node l i k p s) ∙ simp append_assoc

  pub ahead_long : (up : List (Frame E)) → length (ahead up) ≡ before up
  ahead_long [] = refl
  ahead_long (on_left i k p r ∷ up) = let a = ahead_long up in omega arith
  ahead_long (on_right l i k p ∷ up) = let a = ahead_long up in let b = rows_long l in simp length-append (omega arith)

  -- a row more in the gap
  pub rows-insert : (up : List (Frame E)) (i : ℕ) (k : Kind) (p : E) (n : ℕ) → before up ≡ n → rows (plug up (node leaf i k p leaf)) ≡ take n (rows (plug up leaf)) ++ (k ∷ drop n (rows (plug up leaf)))
  rows-insert up i k p n e =
      let long : length (ahead up) ≡ n = ahead_long up ∙ e in
      let r = rows-plug up leaf in
      rows-plug up (node leaf i k p leaf) ∙ ap (λ v. v ++ (k ∷ behind up)) (sym (take_at (ahead up) (behind up) n long) ∙ ap (take n) (sym r)) ∙ ap (λ v. take n (rows (plug up leaf)) ++ (k ∷ v)) (sym (drop_at (ahead up) (behind up) n long) ∙ ap (drop n) (sym r))

  -- the rows without a row
  pub rows_strike : (up : List (Frame E)) (l : Tree E) (i : ℕ) (k : Kind) (p : E) (r s : Tree E) (n : ℕ) → before up + size l ≡ n → rows s ≡ rows l ++ rows r → rows (plug up s) ≡ take n (rows (plug up (node l i k p r))) ++ drop (n + 1) (rows (plug up (node l i k p r)))
  rows_strike up l i k p r s n e es =
      let front = ahead up ++ rows l in
      let back = rows r ++ behind up in
      let long : length front ≡ n = length-append (ahead up) (rows l) ∙ (let a = ahead_long up in let b = rows_long l in omega arith) in
      let old : rows (plug up (node l i k p r)) ≡ front ++ (k ∷ back) = rows-plug up (node l i k p r) ∙ simp append_assoc in
      let new : rows (plug up s) ≡ front ++ back = rows-plug up s ∙ ap (λ v. ahead up ++ (v ++ behind up)) es ∙ simp append_assoc in
      let e₁ : take n (rows (plug up (node l i k p r))) ≡ front = ap (take n) old ∙ take_at front (k ∷ back) n long in
      let e₂ : drop (n + 1) (rows (plug up (node l i k p r))) ≡ back = ap (drop (n + 1)) old ∙ drop_one front k back n long in
      new ∙ ap (λ v. v ++ back) (sym e₁) ∙ ap (λ v. take n (rows (plug up (node l i k p r))) ++ v) (sym e₂)

  -- the first row of a tree, and the others
  pub rows_first : (down : List (Frame E)) (j : ℕ) (k : Kind) (p : E) (r : Tree E) → before down ≡ 0 → rows (plug down (node leaf j k p r)) ≡ k ∷ rows (plug down r)
  rows_first down j k p r e =
      let none : ahead down ≡ [] = none_long (ahead down) (ahead_long down ∙ e) in
      rows-plug down (node leaf j k p r) ∙ ap (λ v. v ++ ((k ∷ rows r) ++ behind down)) none ∙ ap (λ v. k ∷ v) (ap (λ v. v ++ (rows r ++ behind down)) (sym none) ∙ sym (rows-plug down r))
