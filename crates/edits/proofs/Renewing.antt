-- The frames above a replaced row, refreshed one by one.
use Rattle.std.proofs.Common.{◌≡◌, ℕ, ◌+◌, ◌^◌, ◌<◌, ◌≤◌, List, [], ◌∷◌, length, get_or, Some, None, Option, sym, refl, ap, ◌∙◌, subst, arith}
use Rattle.std.specs.List.{slice_get}
use Rattle.rows.specs.declared.kind.Kind.{Kind}
use Rattle.monoid.specs.Meaning.{Meaning}
use Rattle.cells.specs.declared.cell.Cell.{Cell}
use Rattle.cells.specs.Trees.{Tree, leaf, node, link, size, height, Stands, count, here, Distinct, cell}
use Rattle.cells.specs.declared.links.Links.{Links}
use Rattle.cells.specs.declared.mend.Row.{Row}
use Rattle.cells.specs.Sides.{links_of}
use Rattle.cells.specs.Truth.{True}
use Rattle.cells.specs.Mends.{Mends}
use Rattle.cells.proofs.Lookup.{some_one, none-some, nth_within}
use Rattle.cells.proofs.Frame.{here_same, stands_kept}
use Rattle.climb.specs.declared.way.Step.{Step}
use Rattle.climb.specs.Ways.{no_step}
use Rattle.climb.specs.Frames.{Frame, on_left, on_right, plug, before, Stacked}
use Rattle.climb.specs.Rises.{TrueUp}
use Rattle.climb.proofs.Joining.{apart_places, mend_wrote}
use Rattle.climb.proofs.Plugging.{plug-count, plug-size, plug_deep, plug-height, around_whole}
use Rattle.edits.specs.Replaces.{Replaced, Freshened, Freshens, Renewed}
use Rattle.edits.proofs.Keeping.{replaced_left, replaced_right}

-- a row mended between the links that were read from its cell
pub mends_linked : {E : Type 0} (m : Meaning E) (due : Type 0) (x y : List (Cell E)) (row : Row) (c : Cell E) (links : Links) (out : Option ℕ) → links ≡ links_of c → Mends m due x y row links.left links.right out → Mends m due x y row c.left c.right out
mends_linked m due x y row c links out is mends = subst (λ (v : Links). Mends m due x y row v.left v.right out) is mends

-- a row mended as it stands
module _ {E : Type 0} (m : Meaning E) (due : Type 0) (x y : List (Cell E)) (i : ℕ) (out : Option ℕ) where
  pub freshen_no_cell : None ≡ slice_get x i → Freshens m due x y i out
  freshen_no_cell read l k p r s dis room = absurd (none-some (read ∙ s.0))

  pub freshened : (c : Cell E) → Some c ≡ slice_get x i → Mends m due x y (record { place = i; kind = c.kind }) c.left c.right out → Freshens m due x y i out
  freshened c read mends l k p r s dis room =
      let e : c ≡ cell l k p r = some_one (read ∙ s.0) in
      let mends' : Mends m due x y (record { place = i; kind = k }) (link l) (link r) out = subst (λ (v : Cell E). Mends m due x y (record { place = i; kind = v.kind }) v.left v.right out) e mends in
      let d = dis i in
      let one = here_same i in
      let w = mend_wrote x y (record { place = i; kind = k }) (link l) (link r) out l r mends' s.1 s.2 refl refl room (nth_within x i _ s.0) (omega arith) (omega arith) in
      (w.0, record { stored = w.1.stored; stands = w.1.stands; truth = w.1.fresh; other = w.1.other; long = w.1.long })

-- a recogniser that means the same, and is in order where the first was
pub freshens_as : {E : Type 0} (m n : Meaning E) (due owed : Type 0) (x y : List (Cell E)) (i : ℕ) (out : Option ℕ) → n ≡ m → (due → owed) → Freshens n owed x y i out → Freshens m due x y i out
freshens_as {E} m n due owed x y i out same kept go l k p r s dis room =
    let d = go l k p r s dis room in
    let f = d.1 in
    (d.0, record { stored = f.stored; stands = f.stands; truth = λ o. subst (λ (v : Meaning E). True v l → True v r → True v (node l i k f.stored r)) same (f.truth (kept o)); other = f.other; long = f.long })

-- a subtree for another with the same link, height and size
pub stands_swap : {E : Type 0} (x y : List (Cell E)) (up : List (Frame E)) (s t : Tree E) → link s ≡ link t → height s ≡ height t → size s ≡ size t → Stands x (plug up s) → Stands y t → ((q : ℕ) → 0 < count q (plug up leaf) → slice_get y q ≡ slice_get x q) → Stands y (plug up t)
stands_swap x y [] s t el eh es st sy same = sy
stands_swap x y (on_left i k p r ∷ up) s t el eh es st sy same =
    let w = (around_whole x up (node s i k p r) st).1 in
    let one = here_same i in
    let at : (q : ℕ) → 0 < here q i + count q r → slice_get y q ≡ slice_get x q = (λ q h. same q (let e = plug-count q up (node leaf i k p r) in omega arith)) in
    let c : cell s k p r ≡ cell t k p r = cc in
    stands_swap x y up (node s i k p r) (node t i k p r) refl (omega arith) (omega arith) st (at i (omega arith) ∙ w.0 ∙ ap Some c, sy, stands_kept x y r (λ q h. at q (omega arith)) w.2) (λ q h. same q (let e = plug-count q up (node leaf i k p r) in omega arith))
stands_swap x y (on_right l i k p ∷ up) s t el eh es st sy same =
    let w = (around_whole x up (node l i k p s) st).1 in
    let one = here_same i in
    let at : (q : ℕ) → 0 < here q i + count q l → slice_get y q ≡ slice_get x q = (λ q h. same q (let e = plug-count q up (node l i k p leaf) in omega arith)) in
    let c : cell l k p s ≡ cell l k p t = cc in
    stands_swap x y up (node l i k p s) (node l i k p t) refl (omega arith) (omega arith) st (at i (omega arith) ∙ w.0 ∙ ap Some c, stands_kept x y l (λ q h. at q (omega arith)) w.1, sy) (λ q h. same q (let e = plug-count q up (node l i k p leaf) in omega arith))

-- the frames that are left on the way up, the tree that stood below them, and the one that stands there now
record Renew {E : Type 0} (m : Meaning E) (due : Type 0) (x : List (Cell E)) (up : List (Frame E)) (was sub : Tree E) (n : ℕ) (k : Kind) (steps : List Step) (cells : List (Cell E)) (top : ℕ) (left : List (Frame E)) (old new : Tree E) (row : ℕ) : Type 0 where
  stacked : Stacked steps left
  whole : plug left old ≡ plug up was
  row_is : before left + row ≡ before up + n
  replaced : Replaced old row k new
  stands : Stands cells (plug left new)
  here : Some top ≡ link new
  places_are : (q : ℕ) → count q (plug left new) ≡ count q (plug up sub)
  wide : size (plug left new) ≡ size (plug up sub)
  high : height (plug left new) ≡ height (plug up sub)
  truth : due → TrueUp m up → True m sub → TrueUp m left × True m new
  kept : (q : ℕ) → count q (plug up sub) ≡ 0 → slice_get cells q ≡ slice_get x q
  long : length cells ≡ length x

-- how far the way up has come
pub record Renewing {E : Type 0} (m : Meaning E) (due : Type 0) (x : List (Cell E)) (up : List (Frame E)) (was sub : Tree E) (n : ℕ) (k : Kind) (steps : List Step) (cells : List (Cell E)) (top depth : ℕ) : Type 0 where
  left : List (Frame E)
  old : Tree E
  new : Tree E
  row : ℕ
  deep : length left ≡ depth
  renew : Renew m due x up was sub n k steps cells top left old new row

module _ {E : Type 0} (m : Meaning E) (due : Type 0) (x : List (Cell E)) (up : List (Frame E)) (was sub : Tree E) (n : ℕ) (k : Kind) (steps : List Step) where
  pub renew_start : (top d : ℕ) → length up ≡ d → Stacked steps up → Replaced was n k sub → Stands x (plug up sub) → Some top ≡ link sub → Renewing m due x up was sub n k steps x top d
  renew_start top d e st rep ss ea = record {
    left = up;
    old = was;
    new = sub;
    row = n;
    deep = e;
    renew = record { stacked = st; whole = refl; row_is = refl; replaced = rep; stands = ss; here = ea; places_are = λ q. refl; wide = refl; high = refl; truth = λ o p q. (p, q); kept = λ q o. refl; long = refl };
  }

  module _ (dis : Distinct (plug up sub)) (tall : height (plug up sub) < 2 ^ 8) (big : size (plug up sub) < 2 ^ 16) (cells after : List (Cell E)) (top : ℕ) (out : Option ℕ) (d : ℕ) (one : Step) (at_one : one ≡ get_or steps d no_step) (go : Freshens m due cells after one.place out) where
    -- a frame that was refreshed
    module _ (l : Tree E) (i : ℕ) (kf : Kind) (p : E) (r : Tree E) (fs : List (Frame E)) (at : one.place ≡ i) (st : Stands cells (plug fs (node l i kf p r))) (same : (q : ℕ) → count q (plug fs (node l i kf p r)) ≡ count q (plug up sub)) (wide : size (plug fs (node l i kf p r)) ≡ size (plug up sub)) (high : height (plug fs (node l i kf p r)) ≡ height (plug up sub)) where
      level : (out ≡ Some i) × Freshened m due cells after l i kf r
      level =
          let s = (around_whole cells fs (node l i kf p r) st).1 in
          let deep = plug_deep fs (node l i kf p r) in
          let room = plug-size fs (node l i kf p r) in
          let go' : Freshens m due cells after i out = subst (λ v. Freshens m due cells after v out) at go in
          go' l kf p r s (λ q. let a = dis q in let b = same q in let c = plug-count q fs (node l i kf p r) in omega arith) (omega arith, omega arith)

      level_stands : (f : Freshened m due cells after l i kf r) → Stands after (plug fs (node l i kf f.stored r))
      level_stands f =
          let a = dis i in
          let b = same i in
          let c = plug-count i fs (node l i kf p r) in
          let one = here_same i in
          stands_swap cells after fs (node l i kf p r) (node l i kf f.stored r) refl refl refl st f.stands (λ q h. f.other q (λ e. apart_places (plug fs leaf) i q (omega arith) h (sym e)))

      level_kept : (f : Freshened m due cells after l i kf r) → (q : ℕ) → count q (plug up sub) ≡ 0 → slice_get after q ≡ slice_get cells q
      level_kept f q none =
          let one = here_same i in
          let c = plug-count i fs (node l i kf p r) in
          f.other q (apart_places (plug fs (node l i kf p r)) q i (same q ∙ none) (omega arith))

      level_same : (f : Freshened m due cells after l i kf r) → ((q : ℕ) → count q (plug fs (node l i kf f.stored r)) ≡ count q (plug up sub)) × (size (plug fs (node l i kf f.stored r)) ≡ size (plug up sub)) × (height (plug fs (node l i kf f.stored r)) ≡ height (plug up sub))
      level_same f =
          let s₁ = plug-size fs (node l i kf p r) in
          let s₂ = plug-size fs (node l i kf f.stored r) in
          let h₁ = plug-height fs (node l i kf p r) (node l i kf f.stored r) (omega arith) in
          let h₂ = plug-height fs (node l i kf f.stored r) (node l i kf p r) (omega arith) in
          ((λ q. let a = plug-count q fs (node l i kf p r) in let b = plug-count q fs (node l i kf f.stored r) in let c = same q in omega arith), omega arith, omega arith)

    step_at : (fs : List (Frame E)) (old new : Tree E) (row : ℕ) → length fs ≡ d + 1 → Renew m due x up was sub n k steps cells top fs old new row → (place : ℕ) × (out ≡ Some place) × Renewing m due x up was sub n k steps after place d
    step_at [] old new row e c = absurd (omega arith)
    step_at (on_left i kf p r ∷ fs) old new row e c =
        let len : length fs ≡ d = omega arith in
        let at : one.place ≡ i = ap (λ (v : Step). v.place) (at_one ∙ ap (λ v. get_or steps v no_step) (sym len) ∙ c.stacked.0) in
        let l = level new i kf p r fs at c.stands c.places_are c.wide c.high in
        let f = l.1 in
        let same = level_same new i kf p r fs at c.stands c.places_are c.wide c.high f in
        let row_is = c.row_is in (
          i,
          l.0,
          record {
            left = fs;
            old = node old i kf p r;
            new = node new i kf f.stored r;
            row = row;
            deep = len;
            renew = record {
              stacked = c.stacked.1;
              whole = c.whole;
              row_is = omega arith;
              replaced = replaced_left i kf p f.stored row k old new r c.replaced;
              stands = level_stands new i kf p r fs at c.stands c.places_are c.wide c.high f;
              here = refl;
              places_are = same.0;
              wide = same.1;
              high = same.2;
              truth = λ o tu ts. let t = c.truth o tu ts in (t.0.1, f.truth o t.1 t.0.0);
              kept = λ q none. level_kept new i kf p r fs at c.stands c.places_are c.wide c.high f q none ∙ c.kept q none;
              long = f.long ∙ c.long;
            };
          },
        )
    step_at (on_right l i kf p ∷ fs) old new row e c =
        let len : length fs ≡ d = omega arith in
        let at : one.place ≡ i = ap (λ (v : Step). v.place) (at_one ∙ ap (λ v. get_or steps v no_step) (sym len) ∙ c.stacked.0) in
        let v = level l i kf p new fs at c.stands c.places_are c.wide c.high in
        let f = v.1 in
        let same = level_same l i kf p new fs at c.stands c.places_are c.wide c.high f in
        let row_is = c.row_is in (
          i,
          v.0,
          record {
            left = fs;
            old = node l i kf p old;
            new = node l i kf f.stored new;
            row = row + (size l + 1);
            deep = len;
            renew = record {
              stacked = c.stacked.1;
              whole = c.whole;
              row_is = omega arith;
              replaced = replaced_right i kf p f.stored row k l old new (row + (size l + 1)) refl c.replaced;
              stands = level_stands l i kf p new fs at c.stands c.places_are c.wide c.high f;
              here = refl;
              places_are = same.0;
              wide = same.1;
              high = same.2;
              truth = λ o tu ts. let t = c.truth o tu ts in (t.0.1, f.truth o t.0.0 t.1);
              kept = λ q none. level_kept l i kf p new fs at c.stands c.places_are c.wide c.high f q none ∙ c.kept q none;
              long = f.long ∙ c.long;
            };
          },
        )

    step_up : (z : ℕ) → z ≡ d + 1 → Renewing m due x up was sub n k steps cells top z → (place : ℕ) × (out ≡ Some place) × Renewing m due x up was sub n k steps after place d
    step_up z e c = step_at c.left c.old c.new c.row (c.deep ∙ e) c.renew

  pub renew_none : (dis : Distinct (plug up sub)) → height (plug up sub) < 2 ^ 8 → size (plug up sub) < 2 ^ 16 → (cells after : List (Cell E)) (top d : ℕ) (one : Step) → one ≡ get_or steps d no_step → Freshens m due cells after one.place None → (z : ℕ) → z ≡ d + 1 → Renewing m due x up was sub n k steps cells top z → ⊥
  renew_none dis tall big cells after top d one at go z e c = none-some (step_up dis tall big cells after top None d one at go z e c).1

  pub renew_step : (dis : Distinct (plug up sub)) → height (plug up sub) < 2 ^ 8 → size (plug up sub) < 2 ^ 16 → (cells after : List (Cell E)) (top next d : ℕ) (one : Step) → one ≡ get_or steps d no_step → Freshens m due cells after one.place (Some next) → (z : ℕ) → z ≡ d + 1 → Renewing m due x up was sub n k steps cells top z → Renewing m due x up was sub n k steps after next d
  renew_step dis tall big cells after top next d one at go z e c =
      let r = step_up dis tall big cells after top (Some next) d one at go z e c in
      subst (λ v. Renewing m due x up was sub n k steps after v d) (sym (some_one r.1)) r.2

  end_at : (cells : List (Cell E)) (top : ℕ) (fs : List (Frame E)) (old new : Tree E) (row : ℕ) → length fs ≡ 0 → Renew m due x up was sub n k steps cells top fs old new row → (u : Tree E) × (Some top ≡ link u) × Renewed m due x cells up was sub n k u
  end_at cells top [] old new row e c =
      let row_is = c.row_is in
      let same_row : row ≡ before up + n = omega arith in (
        new,
        c.here,
        record {
          replaced = subst (λ v. Replaced v (before up + n) k new) c.whole (subst (λ v. Replaced old v k new) same_row c.replaced);
          truth = λ o tu ts. (c.truth o tu ts).1;
          stands = c.stands;
          kept = c.kept;
          long = c.long;
        },
      )
  end_at cells top (f ∷ fs) old new row e c = absurd (omega arith)

  pub renew_end : (cells : List (Cell E)) (top z : ℕ) → z ≤ 0 → Renewing m due x up was sub n k steps cells top z → (u : Tree E) × (Some top ≡ link u) × Renewed m due x cells up was sub n k u
  renew_end cells top z h c = end_at cells top c.left c.old c.new c.row (c.deep ∙ omega arith) c.renew
