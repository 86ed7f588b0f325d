-- The walk down to the first row of a tree.
use Rattle.std.proofs.Common.{◌≡◌, ℕ, ◌+◌, ◌<◌, ◌≤◌, max, cond, ltb, List, [], ◌∷◌, ◌++◌, length, Some, None, sym, refl, ap, ◌∙◌, subst, arith}
use Rattle.std.specs.List.{slice_get}
use Rattle.rows.specs.declared.kind.Kind.{Kind}
use Rattle.cells.specs.declared.cell.Cell.{Cell}
use Rattle.cells.specs.declared.links.Side.TheVariants.{Left, Right}
use Rattle.cells.specs.Trees.{Tree, leaf, node, link, height, Stands}
use Rattle.cells.proofs.Lookup.{none-some}
use Rattle.cells.proofs.Opening.{open_at, no_cell}
use Rattle.climb.specs.declared.way.Way.{Way}
use Rattle.climb.specs.Ways.{Fitting, pushed}
use Rattle.climb.specs.Frames.{Frame, on_left, plug, before, spot, side, Along}
use Rattle.edits.specs.Walks.{Lowest}
use Rattle.edits.proofs.Pushing.{push_is, along_push}

-- how far the walk to the first row of r has come
pub record Sinking {E : Type 0} (cells : List (Cell E)) (up : List (Frame E)) (r : Tree E) (at : ℕ) (w : Way) : Type 0 where
  down : List (Frame E)
  sub : Tree E
  whole : r ≡ plug down sub
  here : Some at ≡ link sub
  stands : Stands cells sub
  first : before down ≡ 0
  low : height sub + w.depth ≤ 24
  along : Along w (down ++ up)

module _ {E : Type 0} (cells : List (Cell E)) where
  pub sinking_start : (f : Frame E) (up : List (Frame E)) (r : Tree E) (i j : ℕ) (w v : Way) → Fitting w → spot f ≡ i → side f ≡ Right → Along w up → Stands cells r → Some j ≡ link r → height r + length up + 1 ≤ 24 → v ≡ cond (ltb w.depth 24) (pushed w i Right) w → Sinking cells (f ∷ up) r j v
  sinking_start f up r i j w v fit ei eb al s e h ev =
      let deep = al.deep in
      let room : w.depth < 24 = omega arith in
      let is = push_is w v i Right room ev in
      let d : v.depth ≡ w.depth + 1 = ap (λ (u : Way). u.depth) is in
      record { down = []; sub = r; whole = refl; here = e; stands = s; first = refl; low = omega arith; along = subst (λ (u : Way). Along u (f ∷ up)) (sym is) (along_push w f up i Right fit room al ei eb) }

  module _ (up : List (Frame E)) (r : Tree E) (at : ℕ) (w : Way) (c : Cell E) (g : Sinking cells up r at w) (read : Some c ≡ slice_get cells at) where
    pub sinking_more : (next : ℕ) (v : Way) → c.left ≡ Some next → Fitting w → w.depth < 24 → v ≡ cond (ltb w.depth 24) (pushed w at Left) w → Sinking cells up r next v
    sinking_more next v en fit room ev =
        let o = open_at cells at c g.sub g.here g.stands read in
        let is = push_is w v at Left room ev in
        let d : v.depth ≡ w.depth + 1 = ap (λ (u : Way). u.depth) is in
        let h : height g.sub ≡ max (height o.l) (height o.r) + 1 = ap height o.is_node in
        let low = g.low in
        let first = g.first in
        let f = on_left at o.k o.p o.r in
        record { down = f ∷ g.down; sub = o.l; whole = g.whole ∙ ap (plug g.down) o.is_node; here = sym en ∙ ap (λ (u : Cell E). u.left) o.is_cell; stands = o.stands_l; first = omega arith; low = omega arith; along = subst (λ (u : Way). Along u (f ∷ (g.down ++ up))) (sym is) (along_push w f (g.down ++ up) at Left fit room g.along refl refl) }

    lowest_at : (l : Tree E) (k : Kind) (p : E) (b : Tree E) → None ≡ link l → r ≡ plug g.down (node l at k p b) → Lowest up r (record { way = w; place = at })
    lowest_at leaf k p b e whole = record { down = g.down; kind = k; stored = p; right = b; whole = whole; first = g.first; along = g.along }
    lowest_at (node l' i' k' p' b') k p b e whole = absurd (none-some e)

    pub sunk : c.left ≡ None → Lowest up r (record { way = w; place = at })
    sunk en =
        let o = open_at cells at c g.sub g.here g.stands read in
        lowest_at o.l o.k o.p o.r (sym en ∙ ap (λ (u : Cell E). u.left) o.is_cell) (g.whole ∙ ap (plug g.down) o.is_node)

  module _ (up : List (Frame E)) (r : Tree E) (at : ℕ) (w : Way) (g : Sinking cells up r at w) where
    pub sinking_no_cell : None ≡ slice_get cells at → ⊥
    sinking_no_cell read = no_cell cells at g.sub g.here g.stands read

    no_deeper_at : (sub : Tree E) → Some at ≡ link sub → height sub + w.depth ≤ 24 → 24 ≤ w.depth → ⊥
    no_deeper_at leaf e h d = none-some (sym e)
    no_deeper_at (node l j k p b) e h d = omega arith

    pub sinking_no_deeper : 24 ≤ w.depth → ⊥
    sinking_no_deeper d = no_deeper_at g.sub g.here g.low d
