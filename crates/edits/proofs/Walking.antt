-- The walk down to a row, or to a gap.
use Rattle.std.proofs.Common.{◌≡◌, ℕ, ◌+◌, ◌-◌, ◌<◌, ◌≤◌, max, cond, ltb, List, [], ◌∷◌, Some, None, Option, sym, refl, ap, ◌∙◌, subst, arith}
use Rattle.rows.specs.declared.kind.Kind.{Kind}
use Rattle.cells.specs.declared.cell.Cell.{Cell}
use Rattle.cells.specs.declared.links.Side.{Side}
use Rattle.cells.specs.declared.links.Side.TheVariants.{Left, Right}
use Rattle.cells.specs.Trees.{Tree, leaf, node, link, height, size, Stands}
use Rattle.cells.specs.Descents.{most_depth}
use Rattle.cells.proofs.Lookup.{some_one, none-some}
use Rattle.climb.specs.declared.way.Way.{Way}
use Rattle.climb.specs.Ways.{no_way, Fitting, pushed}
use Rattle.climb.specs.Frames.{Frame, on_left, on_right, plug, before, Along}
use Rattle.edits.specs.declared.find.Aim.{Aim}
use Rattle.edits.specs.declared.find.Aim.TheVariants.{Row, Gap as InGap}
use Rattle.edits.specs.declared.find.Fork.{Fork}
use Rattle.edits.specs.Walks.{fork, ForksAt, Leads, Gap, spare, Stops, Turns, Reaches}
use Rattle.edits.proofs.Pushing.{push_is, push_deeper, along_push}

-- how far a walk has come: to the row with n rows before it, for which there is one row to spare, or to the gap with n
-- rows before it, for which there is none
pub record Going {E : Type 0} (cells : List (Cell E)) (t : Tree E) (n extra : ℕ) (at : Option ℕ) (rest : ℕ) (w : Way) : Type 0 where
  pub up : List (Frame E)
  pub sub : Tree E
  pub whole : t ≡ plug up sub
  pub here : at ≡ link sub
  pub stands : Stands cells sub
  pub row : before up + rest ≡ n
  pub within : rest + extra ≤ size sub
  pub low : height sub + w.depth ≤ 23 + extra
  pub along : Along w up

module _ {E : Type 0} (cells : List (Cell E)) (t : Tree E) (n extra : ℕ) where
  pub going_start : (at : Option ℕ) → Stands cells t → at ≡ link t → height t < most_depth + extra → n + extra ≤ size t → Going cells t n extra at n no_way
  going_start at s e h within = record { up = []; sub = t; whole = refl; here = e; stands = s; row = omega arith; within = within; low = omega arith; along = record { deep = refl; stacked = tt } }

  pub going_at : (at at' : Option ℕ) (rest : ℕ) (w : Way) → at ≡ at' → Going cells t n extra at rest w → Going cells t n extra at' rest w
  going_at at at' rest w e g = subst (λ v. Going cells t n extra v rest w) e g

  module _ (rest i : ℕ) (w : Way) where
    -- the row at a place, and the subtree there
    record Opened (up : List (Frame E)) : Type 0 where
      l : Tree E
      k : Kind
      p : E
      r : Tree E
      whole : t ≡ plug up (node l i k p r)
      stands : Stands cells (node l i k p r)
      within : rest + extra ≤ size l + size r + 1
      low : max (height l) (height r) + 1 + w.depth ≤ 23 + extra

    opened_at : (up : List (Frame E)) (sub : Tree E) → t ≡ plug up sub → Some i ≡ link sub → Stands cells sub → rest + extra ≤ size sub → height sub + w.depth ≤ 23 + extra → Opened up
    opened_at up leaf whole e s h low = absurd (none-some (sym e))
    opened_at up (node l j k p r) whole e s h low =
        let ji : j ≡ i = sym (some_one e) in
        record { l = l; k = k; p = p; r = r; whole = whole ∙ ap (λ v. plug up (node l v k p r)) ji; stands = subst (λ v. Stands cells (node l v k p r)) ji s; within = h; low = low }

    opened : (g : Going cells t n extra (Some i) rest w) → Opened g.up
    opened g = opened_at g.up g.sub g.whole g.here g.stands g.within g.low

    pub no_fork : Going cells t n extra (Some i) rest w → ForksAt cells i None → ⊥
    no_fork g read = let o = opened g in none-some (read o.l o.k o.p o.r o.stands)

    module _ (f : Fork) (g : Going cells t n extra (Some i) rest w) (read : ForksAt cells i (Some f)) where
      fork_is : (o : Opened g.up) → f ≡ fork o.l o.r
      fork_is o = some_one (read o.l o.k o.p o.r o.stands)

      pub going_left : (v : Way) (b : Side) → b ≡ Left → Fitting w → w.depth < 24 → v ≡ cond (ltb w.depth 24) (pushed w i b) w → rest + extra ≤ f.before → Going cells t n extra f.links.left rest v
      going_left v b eb fit room ev le =
          let o = opened g in
          let e = fork_is o in
          let eq : f.before ≡ size o.l = ap (λ (u : Fork). u.before) e in
          let is = push_is w v i b room ev in
          let d = push_deeper w v i b room ev in
          let ol = o.low in
          let gr = g.row in
          record { up = on_left i o.k o.p o.r ∷ g.up; sub = o.l; whole = o.whole; here = ap (λ (u : Fork). u.links.left) e; stands = o.stands.1; row = omega arith; within = omega arith; low = omega arith; along = subst (λ (u : Way). Along u (on_left i o.k o.p o.r ∷ g.up)) (sym is) (along_push w (on_left i o.k o.p o.r) g.up i b fit room g.along refl (sym eb)) }

      pub going_right : (v : Way) (b : Side) → b ≡ Right → Fitting w → w.depth < 24 → v ≡ cond (ltb w.depth 24) (pushed w i b) w → f.before < rest → Going cells t n extra f.links.right (rest - f.before - 1) v
      going_right v b eb fit room ev lt =
          let o = opened g in
          let e = fork_is o in
          let eq : f.before ≡ size o.l = ap (λ (u : Fork). u.before) e in
          let is = push_is w v i b room ev in
          let d = push_deeper w v i b room ev in
          let ol = o.low in
          let ow = o.within in
          let gr = g.row in
          record { up = on_right o.l i o.k o.p ∷ g.up; sub = o.r; whole = o.whole; here = ap (λ (u : Fork). u.links.right) e; stands = o.stands.2; row = omega arith; within = omega arith; low = omega arith; along = subst (λ (u : Way). Along u (on_right o.l i o.k o.p ∷ g.up)) (sym is) (along_push w (on_right o.l i o.k o.p) g.up i b fit room g.along refl (sym eb)) }

      pub found : rest ≡ f.before → Leads t n (record { way = w; place = i })
      found eq =
          let o = opened g in
          let e : f.before ≡ size o.l = ap (λ (u : Fork). u.before) (fork_is o) in
          let gr = g.row in
          record { up = g.up; left = o.l; kind = o.k; stored = o.p; right = o.r; whole = o.whole; row = omega arith; along = g.along }

  -- the gap is reached
  gap_at : (rest : ℕ) (w : Way) (up : List (Frame E)) (sub : Tree E) → t ≡ plug up sub → None ≡ link sub → rest + extra ≤ size sub → before up + rest ≡ n → Along w up → Gap t n w
  gap_at rest w up leaf whole e h row al = record { up = up; whole = whole; row = omega arith; along = al }
  gap_at rest w up (node l i k p r) whole e h row al = absurd (none-some e)

  pub gap : (rest : ℕ) (w : Way) → Going cells t n extra None rest w → Gap t n w
  gap rest w g = gap_at rest w g.up g.sub g.whole g.here g.within g.row g.along

module _ {E : Type 0} (cells : List (Cell E)) (t : Tree E) (n : ℕ) where
  -- a walk to a row does not end in a gap
  no_none_at : (rest : ℕ) (sub : Tree E) → None ≡ link sub → rest + 1 ≤ size sub → ⊥
  no_none_at rest leaf e h = omega arith
  no_none_at rest (node l i k p r) e h = none-some e

  pub no_none : (rest : ℕ) (w : Way) → Going cells t n 1 None rest w → ⊥
  no_none rest w g = no_none_at rest g.sub g.here g.within

  -- nor does either go too deep
  no_deeper_at : (rest extra d : ℕ) (sub : Tree E) → extra ≤ 1 → rest + extra ≤ size sub → height sub + d ≤ 23 + extra → 24 ≤ d → ⊥
  no_deeper_at rest extra d leaf one h low deep = omega arith
  no_deeper_at rest extra d (node l i k p r) one h low deep = omega arith

  pub no_deeper : (rest extra : ℕ) (at : Option ℕ) (w : Way) → extra ≤ 1 → Going cells t n extra at rest w → 24 ≤ w.depth → ⊥
  no_deeper rest extra at w one g deep = no_deeper_at rest extra w.depth g.sub one g.within g.low deep

-- the end of a walk, by what it looks for
module _ {E : Type 0} (cells : List (Cell E)) (t : Tree E) (n rest : ℕ) (w : Way) where
  pub reached_gap : (aim : Aim) → Going cells t n (spare aim) None rest w → Reaches aim t n (record { way = w; place = None })
  reached_gap Row g = absurd (no_none cells t n rest w g)
  reached_gap InGap g = (refl, gap cells t n 0 rest w g)

  pub reached_row : (aim : Aim) (i : ℕ) (f : Fork) → Going cells t n (spare aim) (Some i) rest w → ForksAt cells i (Some f) → Stops aim rest f.before → Reaches aim t n (record { way = w; place = Some i })
  reached_row Row i f g read is = (i, refl, found cells t n 1 rest i w f g read is)
  reached_row InGap i f g read is = absurd is

-- a walk that goes on
module _ {E : Type 0} (cells : List (Cell E)) (t : Tree E) (n rest i : ℕ) (w : Way) (aim : Aim) (f : Fork) (g : Going cells t n (spare aim) (Some i) rest w) (read : ForksAt cells i (Some f)) (v : Way) (b : Side) (turns : Turns aim rest f.before (Some b)) (fit : Fitting w) (room : w.depth < 24) (is : v ≡ cond (ltb w.depth 24) (pushed w i b) w) (at : Option ℕ) (left : ℕ) where
  pub went_left : b ≡ Left → at ≡ f.links.left → left ≡ rest → Going cells t n (spare aim) at left v
  went_left eb ea er =
      let le : rest + spare aim ≤ f.before = subst (λ (u : Side). Turns aim rest f.before (Some u)) eb turns in
      let on = going_left cells t n (spare aim) rest i w f g read v b eb fit room is le in
      subst (λ u. Going cells t n (spare aim) u left v) (sym ea) (subst (λ u. Going cells t n (spare aim) f.links.left u v) (sym er) on)

  pub went_right : b ≡ Right → at ≡ f.links.right → left ≡ rest - f.before - 1 → Going cells t n (spare aim) at left v
  went_right eb ea er =
      let lt : f.before < rest = subst (λ (u : Side). Turns aim rest f.before (Some u)) eb turns in
      let on = going_right cells t n (spare aim) rest i w f g read v b eb fit room is lt in
      subst (λ u. Going cells t n (spare aim) u left v) (sym ea) (subst (λ u. Going cells t n (spare aim) f.links.right u v) (sym er) on)

pub few_spare : (aim : Aim) → spare aim ≤ 1
few_spare Row = omega arith
few_spare InGap = omega arith
