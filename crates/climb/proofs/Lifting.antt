-- One level of the way up: a frame joined with the subtree below it.
use Rattle.std.proofs.Common.{◌≡◌, ℕ, ◌+◌, ◌^◌, ◌<◌, ◌≤◌, max, List, ◌∷◌, Some, None, Option, sym, ap, ◌∙◌, subst, ⊎_elim, arith}
use Rattle.std.specs.List.{slice_get}
use Rattle.std.proofs.lemmas.Bool.{cases_lt}
use Rattle.rows.specs.declared.kind.Kind.{Kind}
use Rattle.monoid.specs.Meaning.{Meaning}
use Rattle.cells.specs.declared.cell.Cell.{Cell}
use Rattle.cells.specs.declared.links.Links.{Links}
use Rattle.cells.specs.declared.links.Side.{Side}
use Rattle.cells.specs.declared.mend.Row.{Row}
use Rattle.cells.specs.Sides.{with_link, links_of}
use Rattle.cells.specs.Trees.{Tree, leaf, node, link, height, size, rows, Balanced, Stands, count, Distinct}
use Rattle.cells.specs.Truth.{True}
use Rattle.cells.proofs.Lookup.{some_one, none-some, nth_within}
use Rattle.climb.specs.Joins.{Written, Joined, Joins}
use Rattle.climb.specs.Frames.{Frame, on_left, on_right, plug, over}
use Rattle.climb.specs.Rises.{FrameAt, TrueAt, JoinedAt, ApartAt, Levels}
use Rattle.climb.proofs.Plugging.{plug-count, plug-size, plug_deep}

module _ {E : Type 0} (m : Meaning E) (due : Type 0) (x y : List (Cell E)) (i : ℕ) (a out : Option ℕ) where
  pub level_no_cell : (b : Side) → None ≡ slice_get x i → Levels m due x y i b a out
  level_no_cell b e (on_left j k p r) s ej eb at ss ea apart = absurd (none-some (e ∙ ap (slice_get x) (sym ej) ∙ at.1))
  level_no_cell b e (on_right l j k p) s ej eb at ss ea apart = absurd (none-some (e ∙ ap (slice_get x) (sym ej) ∙ at.1))

  module _ (c : Cell E) (read : Some c ≡ slice_get x i) where
    -- the row that was read is that of the frame
    row_is : (j : ℕ) (k : Kind) (d : Cell E) → j ≡ i → slice_get x j ≡ Some d → d.kind ≡ k → ◌≡◌ {A = Row} (record { place = i; kind = c.kind }) (record { place = j; kind = k })
    row_is j k d ej at ek =
        let e : c ≡ d = some_one (read ∙ ap (slice_get x) (sym ej) ∙ at) in
        cc

    level_left : (links : Links) → links ≡ record { left = a; right = c.right } → Joins m due x y (record { place = i; kind = c.kind }) links.left links.right out → (j : ℕ) (k : Kind) (p : E) (r s : Tree E) → j ≡ i → FrameAt x (on_left j k p r) → Stands x s → a ≡ link s → ApartAt (on_left j k p r) s → (u : Tree E) × (out ≡ link u) × JoinedAt m due x y (on_left j k p r) s u
    level_left links is go j k p r s ej at ss ea apart =
        let e : c ≡ at.0 = some_one (read ∙ ap (slice_get x) (sym ej) ∙ at.1) in
        let go' : Joins m due x y (record { place = j; kind = k }) links.left links.right out = subst (λ (v : Row). Joins m due x y v links.left links.right out) (row_is j k at.0 ej at.1 at.2) go in
        go' s r ss at.4 (ap (λ (v : Links). v.left) is ∙ ea) (ap (λ (v : Links). v.right) is ∙ ap (λ (v : Cell E). v.right) e ∙ at.3) apart.0 apart.1 (nth_within x j _ at.1)

    level_right : (links : Links) → links ≡ record { left = c.left; right = a } → Joins m due x y (record { place = i; kind = c.kind }) links.left links.right out → (l : Tree E) (j : ℕ) (k : Kind) (p : E) (s : Tree E) → j ≡ i → FrameAt x (on_right l j k p) → Stands x s → a ≡ link s → ApartAt (on_right l j k p) s → (u : Tree E) × (out ≡ link u) × JoinedAt m due x y (on_right l j k p) s u
    level_right links is go l j k p s ej at ss ea apart =
        let e : c ≡ at.0 = some_one (read ∙ ap (slice_get x) (sym ej) ∙ at.1) in
        let go' : Joins m due x y (record { place = j; kind = k }) links.left links.right out = subst (λ (v : Row). Joins m due x y v links.left links.right out) (row_is j k at.0 ej at.1 at.2) go in
        go' l s at.4 ss (ap (λ (v : Links). v.left) is ∙ ap (λ (v : Cell E). v.left) e ∙ at.3) (ap (λ (v : Links). v.right) is ∙ ea) apart.0 apart.1 (nth_within x j _ at.1)

    pub leveled : (b : Side) (links : Links) → links ≡ with_link (links_of c) b a → Joins m due x y (record { place = i; kind = c.kind }) links.left links.right out → Levels m due x y i b a out
    leveled b links is go (on_left j k p r) s ej eb at ss ea apart = level_left links (is ∙ ap (λ (v : Side). with_link (links_of c) v a) (sym eb)) go j k p r s ej at ss ea apart
    leveled b links is go (on_right l j k p) s ej eb at ss ea apart = level_right links (is ∙ ap (λ (v : Side). with_link (links_of c) v a) (sym eb)) go l j k p s ej at ss ea apart

-- what a level does to the whole
pub record Lifted {E : Type 0} (m : Meaning E) (due : Type 0) (x y : List (Cell E)) (f : Frame E) (s u : Tree E) : Type 0 where
  pub same_rows : rows u ≡ rows (over f s)
  pub places : (q : ℕ) → count q u ≡ count q (over f s)
  pub wide : size u ≡ size (over f s)
  pub high : height u ≤ height (over f s)
  pub truth : due → TrueAt m f → True m s → True m u
  pub balance : (old : Tree E) (lo hi : ℕ) → Balanced (over f old) → Balanced s → height old ≤ height s + lo → height s ≤ height old + hi → lo + hi ≤ 1 → Balanced u × (height (over f old) ≤ height u + lo) × (height u ≤ height (over f old) + hi)
  pub written : Written x y u

-- the height of the join of a side of height s with one of height r, where the side was of height o
near : (o s r u lo hi : ℕ) → o ≤ r + 1 → r ≤ o + 1 → o ≤ s + lo → s ≤ o + hi → lo + hi ≤ 1 → (s ≤ r + 1 → r ≤ s + 1 → u ≡ max s r + 1) → max s r ≤ u → u ≤ max s r + 1 → (max o r + 1 ≤ u + lo) × (u ≤ max o r + 1 + hi)
near o s r u lo hi h₁ h₂ h₃ h₄ h₅ ev b₁ b₂ =
    ⊎_elim (λ a. (omega arith, omega arith)) (λ a. ⊎_elim (λ b. (omega arith, omega arith)) (λ b. let e = ev a b in (omega arith, omega arith)) (cases_lt (s + 1) r)) (cases_lt (r + 1) s)

module _ {E : Type 0} (m : Meaning E) (due : Type 0) (x y : List (Cell E)) where
  pub lifted : (f : Frame E) (s u : Tree E) → JoinedAt m due x y f s u → Lifted m due x y f s u
  lifted (on_left i k p r) s u j =
      let sh = j.shaped in
      record {
        same_rows = sh.same_rows;
        places = sh.places;
        wide = sh.wide;
        high = sh.high;
        truth = λ d tr ts. j.truth d ts tr;
        balance = λ old lo hi bo bs h₁ h₂ h₃.
            let b = sh.balance bs bo.2 (omega arith) (omega arith) in
            let n = near (height old) (height s) (height r) (height u) lo hi bo.0.0 bo.0.1 h₁ h₂ h₃ (λ p q. sh.even (p, q)) b.1 sh.high in
            (b.0, n.0, n.1);
        written = j.written;
      }
  lifted (on_right l i k p) s u j =
      let sh = j.shaped in
      let high = sh.high in
      record {
        same_rows = sh.same_rows;
        places = sh.places;
        wide = sh.wide;
        high = sh.high;
        truth = λ d tl ts. j.truth d tl ts;
        balance = λ old lo hi bo bs h₁ h₂ h₃.
            let b = sh.balance bo.1 bs (omega arith) (omega arith) in
            let n = near (height old) (height s) (height l) (height u) lo hi bo.0.1 bo.0.0 h₁ h₂ h₃ (λ p q. sh.even (q, p) ∙ omega arith) (omega (arith, b.1)) (omega arith) in
            (b.0, omega (arith, n.0), omega (arith, n.1));
        written = j.written;
      }

  -- a join has a root
  pub joined-some : (f : Frame E) (s u : Tree E) → JoinedAt m due x y f s u → None ≡ link u → ⊥
  joined-some (on_left i k p r) s leaf j e = let w = j.shaped.wide in omega arith
  joined-some (on_right l i k p) s leaf j e = let w = j.shaped.wide in omega arith
  joined-some f s (node a i k p b) j e = none-some e

-- the places of a frame and its subtree are apart, with room
pub apart_at : {E : Type 0} (f : Frame E) (up : List (Frame E)) (s : Tree E) → Distinct (plug (f ∷ up) s) → height (plug (f ∷ up) s) < 2 ^ 8 → size (plug (f ∷ up) s) < 2 ^ 16 → ApartAt f s
apart_at (on_left i k p r) up s d h w =
    let h' = plug_deep up (node s i k p r) in
    let w' = plug-size up (node s i k p r) in
    ((λ q. let e = plug-count q up (node s i k p r) in let u = d q in omega arith), (omega arith, omega arith))
apart_at (on_right l i k p) up s d h w =
    let h' = plug_deep up (node l i k p s) in
    let w' = plug-size up (node l i k p s) in
    ((λ q. let e = plug-count q up (node l i k p s) in let u = d q in omega arith), (omega arith, omega arith))

-- a recogniser that means the same, and is in order where the first was
module _ {E : Type 0} (m n : Meaning E) (due owed : Type 0) (same : n ≡ m) (kept : due → owed) (x y : List (Cell E)) where
  joined_as : (l : Tree E) (row : Row) (r u : Tree E) → Joined n owed x y l row r u → Joined m due x y l row r u
  joined_as l row r u j = record { shaped = j.shaped; truth = λ d. subst (λ (v : Meaning E). True v l → True v r → True v u) same (j.truth (kept d)); written = j.written }

  joined_at_as : (f : Frame E) (s u : Tree E) → JoinedAt n owed x y f s u → JoinedAt m due x y f s u
  joined_at_as (on_left i k p r) s u j = joined_as s (record { place = i; kind = k }) r u j
  joined_at_as (on_right l i k p) s u j = joined_as l (record { place = i; kind = k }) s u j

  pub levels_as : (i : ℕ) (b : Side) (a out : Option ℕ) → Levels n owed x y i b a out → Levels m due x y i b a out
  levels_as i b a out go f s ei eb at ss ea apart =
      let d = go f s ei eb at ss ea apart in
      (d.0, d.1, joined_at_as f s d.0 d.2)
