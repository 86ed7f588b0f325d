-- What a tree has, by its frames and the subtree below them.
use Rattle.std.proofs.Common.{◌≡◌, ℕ, ◌+◌, ◌<◌, ◌≤◌, List, [], ◌∷◌, ◌++◌, length, refl, ap, ◌∙◌, arith}
use Rattle.std.specs.List.{slice_get}
use Rattle.monoid.specs.Meaning.{Meaning}
use Rattle.cells.specs.declared.cell.Cell.{Cell}
use Rattle.cells.specs.Trees.{Tree, leaf, node, height, size, rows, Balanced, Stands, count, here}
use Rattle.cells.specs.Truth.{True}
use Rattle.cells.proofs.Frame.{here_same, stands_kept}
use Rattle.climb.specs.Frames.{Frame, on_left, on_right, plug}
use Rattle.climb.specs.Rises.{Around, TrueUp}

module _ {E : Type 0} where
  pub plug-rows : (up : List (Frame E)) (s t : Tree E) → rows s ≡ rows t → rows (plug up s) ≡ rows (plug up t)
  plug-rows [] s t e = e
  plug-rows (on_left i k p r ∷ up) s t e = plug-rows up (node s i k p r) (node t i k p r) (ap (λ v. v ++ (k ∷ rows r)) e)
  plug-rows (on_right l i k p ∷ up) s t e = plug-rows up (node l i k p s) (node l i k p t) (ap (λ v. rows l ++ (k ∷ v)) e)

  pub plug-count : (q : ℕ) (up : List (Frame E)) (s : Tree E) → count q (plug up s) ≡ count q (plug up leaf) + count q s
  plug-count q [] s = omega arith
  plug-count q (on_left i k p r ∷ up) s = let a = plug-count q up (node s i k p r) in let b = plug-count q up (node leaf i k p r) in omega arith
  plug-count q (on_right l i k p ∷ up) s = let a = plug-count q up (node l i k p s) in let b = plug-count q up (node l i k p leaf) in omega arith

  pub plug-size : (up : List (Frame E)) (s : Tree E) → size (plug up s) ≡ size (plug up leaf) + size s
  plug-size [] s = omega arith
  plug-size (on_left i k p r ∷ up) s = let a = plug-size up (node s i k p r) in let b = plug-size up (node leaf i k p r) in omega arith
  plug-size (on_right l i k p ∷ up) s = let a = plug-size up (node l i k p s) in let b = plug-size up (node l i k p leaf) in omega arith

  -- a subtree of a height at most d more makes a whole of a height at most d more
  pub plug_near : (up : List (Frame E)) (s t : Tree E) (d : ℕ) → height s ≤ height t + d → height (plug up s) ≤ height (plug up t) + d
  plug_near [] s t d h = h
  plug_near (on_left i k p r ∷ up) s t d h = plug_near up (node s i k p r) (node t i k p r) d (omega arith)
  plug_near (on_right l i k p ∷ up) s t d h = plug_near up (node l i k p s) (node l i k p t) d (omega arith)

  pub plug-height : (up : List (Frame E)) (s t : Tree E) → height s ≤ height t → height (plug up s) ≤ height (plug up t)
  plug-height up s t h = let n = plug_near up s t 0 (omega arith) in omega arith

  pub plug_deep : (up : List (Frame E)) (s : Tree E) → length up + height s ≤ height (plug up s)
  plug_deep [] s = omega arith
  plug_deep (on_left i k p r ∷ up) s = let a = plug_deep up (node s i k p r) in omega arith
  plug_deep (on_right l i k p ∷ up) s = let a = plug_deep up (node l i k p s) in omega arith

  pub plug_balanced : (up : List (Frame E)) (s : Tree E) → Balanced (plug up s) → Balanced s
  plug_balanced [] s b = b
  plug_balanced (on_left i k p r ∷ up) s b = (plug_balanced up (node s i k p r) b).1
  plug_balanced (on_right l i k p ∷ up) s b = (plug_balanced up (node l i k p s) b).2

  pub true-parts : (m : Meaning E) (up : List (Frame E)) (s : Tree E) → True m (plug up s) → TrueUp m up × True m s
  true-parts m [] s h = (tt, h)
  true-parts m (on_left i k p r ∷ up) s h = let d = true-parts m up (node s i k p r) h in ((d.1.2, d.0), d.1.1)
  true-parts m (on_right l i k p ∷ up) s h = let d = true-parts m up (node l i k p s) h in ((d.1.1, d.0), d.1.2)

  -- frames kept where their places are
  pub around_kept : (x y : List (Cell E)) (up : List (Frame E)) → ((q : ℕ) → 0 < count q (plug up leaf) → slice_get y q ≡ slice_get x q) → Around x up → Around y up
  around_kept x y [] same a = tt
  around_kept x y (on_left i k p r ∷ up) same a =
      let one = here_same i in
      let c = a.0 in
      let at : (q : ℕ) → 0 < here q i + count q r → slice_get y q ≡ slice_get x q = (λ q h. same q (let e = plug-count q up (node leaf i k p r) in omega arith)) in
      ((c.0, at i (omega arith) ∙ c.1, c.2, c.3, stands_kept x y r (λ q h. at q (omega arith)) c.4), around_kept x y up (λ q h. same q (let e = plug-count q up (node leaf i k p r) in omega arith)) a.1)
  around_kept x y (on_right l i k p ∷ up) same a =
      let one = here_same i in
      let c = a.0 in
      let at : (q : ℕ) → 0 < here q i + count q l → slice_get y q ≡ slice_get x q = (λ q h. same q (let e = plug-count q up (node l i k p leaf) in omega arith)) in
      ((c.0, at i (omega arith) ∙ c.1, c.2, c.3, stands_kept x y l (λ q h. at q (omega arith)) c.4), around_kept x y up (λ q h. same q (let e = plug-count q up (node l i k p leaf) in omega arith)) a.1)

  -- what stands whole stands in parts
  pub around_whole : (x : List (Cell E)) (up : List (Frame E)) (s : Tree E) → Stands x (plug up s) → Around x up × Stands x s
  around_whole x [] s h = (tt, h)
  around_whole x (on_left i k p r ∷ up) s h =
      let d = around_whole x up (node s i k p r) h in
      (((_, d.1.0, refl, refl, d.1.2), d.0), d.1.1)
  around_whole x (on_right l i k p ∷ up) s h =
      let d = around_whole x up (node l i k p s) h in
      (((_, d.1.0, refl, refl, d.1.1), d.0), d.1.2)
