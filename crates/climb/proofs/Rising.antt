-- The way up, level by level.
use Rattle.std.proofs.Common.{◌≡◌, ℕ, ◌+◌, ◌^◌, ◌<◌, ◌≤◌, List, [], ◌∷◌, length, get_or, Some, None, Option, sym, refl, ap, ◌∙◌, arith}
use Rattle.std.specs.List.{slice_get}
use Rattle.monoid.specs.Meaning.{Meaning}
use Rattle.cells.specs.declared.cell.Cell.{Cell}
use Rattle.climb.specs.declared.way.Step.{Step}
use Rattle.climb.specs.Ways.{no_step}
use Rattle.cells.specs.Trees.{Tree, link, height, size, rows, Balanced, Stands, count, Distinct}
use Rattle.cells.specs.Truth.{True}
use Rattle.climb.specs.Frames.{Frame, plug, over, step, Stacked}
use Rattle.climb.specs.Rises.{Around, TrueUp, Levels, Risen}
use Rattle.climb.proofs.Plugging.{plug-rows, plug-count, plug-size, plug-height, plug_balanced, around_kept}
use Rattle.climb.proofs.Lifting.{lifted, joined-some, apart_at}

-- the frames that are left on the way up, and the tree below them
record Climb {E : Type 0} (m : Meaning E) (due : Type 0) (x : List (Cell E)) (up : List (Frame E)) (s : Tree E) (steps : List Step) (cells : List (Cell E)) (a : Option ℕ) (left : List (Frame E)) (sub : Tree E) : Type 0 where
  stacked : Stacked steps left
  around : Around cells left
  stands : Stands cells sub
  here : a ≡ link sub
  same_rows : rows (plug left sub) ≡ rows (plug up s)
  places_are : (q : ℕ) → count q (plug left sub) ≡ count q (plug up s)
  wide : size (plug left sub) ≡ size (plug up s)
  high : height (plug left sub) ≤ height (plug up s)
  truth : due → TrueUp m up → True m s → TrueUp m left × True m sub
  balance : (old : Tree E) (lo hi : ℕ) → Balanced (plug up old) → Balanced s → height old ≤ height s + lo → height s ≤ height old + hi → lo + hi ≤ 1 → (was : Tree E) × Balanced (plug left was) × Balanced sub × (height was ≤ height sub + lo) × (height sub ≤ height was + hi) × (plug left was ≡ plug up old)
  kept : (q : ℕ) → count q (plug up s) ≡ 0 → slice_get cells q ≡ slice_get x q
  long : length cells ≡ length x

-- how far the way up has come
pub record Climbing {E : Type 0} (m : Meaning E) (due : Type 0) (x : List (Cell E)) (up : List (Frame E)) (s : Tree E) (steps : List Step) (cells : List (Cell E)) (a : Option ℕ) (depth : ℕ) : Type 0 where
  left : List (Frame E)
  sub : Tree E
  deep : length left ≡ depth
  climb : Climb m due x up s steps cells a left sub

module _ {E : Type 0} (m : Meaning E) (due : Type 0) (x : List (Cell E)) (up : List (Frame E)) (s : Tree E) (steps : List Step) where
  pub climb_start : (a : Option ℕ) (d : ℕ) → length up ≡ d → Stacked steps up → Around x up → Stands x s → a ≡ link s → Climbing m due x up s steps x a d
  climb_start a d e st ar ss ea = record {
    left = up;
    sub = s;
    deep = e;
    climb = record { stacked = st; around = ar; stands = ss; here = ea; same_rows = refl; places_are = λ q. refl; wide = refl; high = omega arith; truth = λ o p q. (p, q); balance = λ old lo hi bo bs h₁ h₂ h₃. (old, bo, bs, h₁, h₂, refl); kept = λ q o. refl; long = refl };
  }

  module _ (dis : Distinct (plug up s)) (tall : height (plug up s) < 2 ^ 8) (big : size (plug up s) < 2 ^ 16) (cells after : List (Cell E)) (a top : Option ℕ) (d : ℕ) (one : Step) (at : one ≡ get_or steps d no_step) (go : Levels m due cells after one.place one.side a top) where
    step_at : (fs : List (Frame E)) (sub : Tree E) → length fs ≡ d + 1 → Climb m due x up s steps cells a fs sub → (None ≡ top → ⊥) × Climbing m due x up s steps after top d
    step_at [] sub e c = absurd (omega arith)
    step_at (f ∷ fs) sub e c =
        let len : length fs ≡ d = omega arith in
        let st = c.stacked in
        let wide = c.wide in
        let high = c.high in
        let dis' : Distinct (plug (f ∷ fs) sub) = (λ q. let e = c.places_are q in let u = dis q in omega arith) in
        let is : step f ≡ one = sym st.0 ∙ ap (λ v. get_or steps v no_step) len ∙ sym at in
        let r = go f sub (ap (λ (v : Step). v.place) is) (ap (λ (v : Step). v.side) is) c.around.0 c.stands c.here (apart_at f fs sub dis' (omega arith) (omega arith)) in
        let u = r.0 in
        let j = lifted m due cells after f sub u r.2 in
        let same : (q : ℕ) → count q (plug fs u) ≡ count q (plug (f ∷ fs) sub) = (λ q. let c₁ = plug-count q fs u in let c₂ = plug-count q fs (over f sub) in let c₃ = j.places q in omega arith) in
        let s₁ = plug-size fs u in
        let s₂ = plug-size fs (over f sub) in
        let s₃ = j.wide in
        let h₁ = plug-height fs u (over f sub) j.high in (
          (λ none. joined-some m due cells after f sub u r.2 (none ∙ r.1)),
          record {
            left = fs;
            sub = u;
            deep = len;
            climb = record {
              stacked = st.1;
              around = around_kept cells after fs (λ q h. j.written.kept q (let c₁ = plug-count q fs u in let c₂ = same q in let c₃ = dis' q in omega arith)) c.around.1;
              stands = j.written.stands;
              here = r.1;
              same_rows = plug-rows fs u (over f sub) j.same_rows ∙ c.same_rows;
              places_are = λ q. same q ∙ c.places_are q;
              wide = omega arith;
              high = omega arith;
              truth = λ o tu ts. let t = c.truth o tu ts in (t.0.1, j.truth o t.0.0 t.1);
              balance = λ old lo hi bo bs h₂ h₃ h₄. let b = c.balance old lo hi bo bs h₂ h₃ h₄ in let n = j.balance b.0 lo hi (plug_balanced fs (over f b.0) b.1) b.2 b.3 b.4 h₄ in (over f b.0, b.1, n.0, n.1, n.2, b.5);
              kept = λ q o. j.written.kept q (let c₁ = plug-count q fs u in let c₂ = same q in let c₃ = c.places_are q in omega arith) ∙ c.kept q o;
              long = j.written.long ∙ c.long;
            };
          },
        )

    pub climb_step : (n : ℕ) → n ≡ d + 1 → Climbing m due x up s steps cells a n → Climbing m due x up s steps after top d
    climb_step n e c = (step_at c.left c.sub (c.deep ∙ e) c.climb).1

    pub climb_none : (n : ℕ) → n ≡ d + 1 → Climbing m due x up s steps cells a n → None ≡ top → ⊥
    climb_none n e c = (step_at c.left c.sub (c.deep ∙ e) c.climb).0

  end_at : (cells : List (Cell E)) (a : Option ℕ) (fs : List (Frame E)) (sub : Tree E) → length fs ≡ 0 → Climb m due x up s steps cells a fs sub → (u : Tree E) × (Some a ≡ Some (link u)) × Risen m due x cells up s u
  end_at cells a [] sub e c = (
    sub,
    ap Some c.here,
    record {
      same_rows = c.same_rows;
      places = c.places_are;
      truth = λ o tu ts. (c.truth o tu ts).1;
      balance = λ old lo hi bo bs h₁ h₂ h₃. let b = c.balance old lo hi bo bs h₁ h₂ h₃ in let e : height b.0 ≡ height (plug up old) = ap height b.5 in let p = b.3 in let q = b.4 in (b.2, omega arith, omega arith);
      stands = c.stands;
      kept = c.kept;
      long = c.long;
    },
  )
  end_at cells a (f ∷ fs) sub e c = absurd (omega arith)

  pub climb_end : (cells : List (Cell E)) (a : Option ℕ) (n : ℕ) → n ≤ 0 → Climbing m due x up s steps cells a n → (u : Tree E) × (Some a ≡ Some (link u)) × Risen m due x cells up s u
  climb_end cells a n h c = end_at cells a c.left c.sub (c.deep ∙ omega arith) c.climb
