-- The kind of a row replaced, from the walk down and the way up.
use Rattle.std.proofs.Common.{◌≡◌, ℕ, ◌+◌, ◌*◌, ◌<◌, ◌≤◌, ◌≢◌, List, Some, None, Option, sym, refl, ap, ◌∙◌, subst, arith}
use Rattle.std.specs.List.{slice_get}
use Rattle.rows.specs.declared.kind.Kind.{Kind}
use Rattle.monoid.specs.Meaning.{Meaning}
use Rattle.monoid.specs.Laws.{Lawful}
use Rattle.cells.specs.declared.cell.Cell.{Cell}
use Rattle.cells.specs.declared.mode.Mode.{Mode}
use Rattle.cells.specs.Trees.{Tree, leaf, node, size, height, Stands, count, cell}
use Rattle.cells.specs.Truth.{True}
use Rattle.cells.specs.Counts.{Spent}
use Rattle.cells.specs.Asking.{cost}
use Rattle.cells.specs.Mends.{Mends}
use Rattle.cells.proofs.Lookup.{some_one, none-some, nth_within}
use Rattle.cells.proofs.Frame.{here_same, stands_kept}
use Rattle.climb.specs.declared.way.Way.{Way}
use Rattle.climb.specs.Frames.{plug}
use Rattle.climb.specs.Rises.{TrueUp}
use Rattle.climb.proofs.Joining.{apart_places, Wrote, mend_wrote}
use Rattle.climb.proofs.Plugging.{plug-count, plug-size, plug_deep, plug-height, true-parts, around_whole}
use Rattle.edits.specs.declared.find.Found.{Found}
use Rattle.edits.specs.Walks.{Leads, Finds}
use Rattle.edits.specs.Edited.{Sheet, dearest}
use Rattle.edits.specs.Replaces.{Replaced, Renews, Replaces}
use Rattle.edits.proofs.Editing.{spent_by_rows, low, true_sound}
use Rattle.edits.proofs.Striking.{find_refused, leads_at, cell_at}
use Rattle.edits.proofs.Keeping.{replaced_kept, replaced_here}
use Rattle.edits.proofs.Untouched.{untouched}
use Rattle.edits.proofs.Renewing.{stands_swap}

-- a recogniser that means the same, and is in order where the first was
pub renews_as : {E : Type 0} (m n : Meaning E) (due owed : Type 0) (x y : List (Cell E)) (w : Way) (start : ℕ) (out : Option ℕ) → n ≡ m → (due → owed) → Renews n owed x y w start out → Renews m due x y w start out
renews_as {E} m n due owed x y w start out same kept renews up was sub row k al rep ss ea dis tall big deep =
    let d = renews up was sub row k al rep ss ea dis tall big deep in
    let r = d.2 in
    (d.0, d.1, record { replaced = r.replaced; truth = λ o. subst (λ (v : Meaning E). TrueUp v up → True v sub → True v d.0) same (r.truth (kept o)); stands = r.stands; kept = r.kept; long = r.long })

module _ {E : Type 0} (m : Meaning E) (due : Type 0) (mode : Mode) (told tells : ℕ) (x y z : List (Cell E)) (root : Option ℕ) (n : ℕ) (k : Kind) where
  pub replace_no_row : (out : Option ℕ) → Finds x root n None → Replaces m due mode told tells x z root n k out
  replace_no_row out find t s h = absurd (find_refused x root n find t s h)

  module _ (w : Found) (find : Finds x root n (Some w)) where
    pub replace_no_cell : (out : Option ℕ) → None ≡ slice_get x w.place → Replaces m due mode told tells x z root n k out
    replace_no_cell out rd t s h = absurd (none-some (rd ∙ cell_at x root n w find t s h (leads_at x root n w find t s h)))

    module _ (c : Cell E) (read : Some c ≡ slice_get x w.place) where
      -- the row itself, mended with the other kind
      written : (out : Option ℕ) → Mends m due x y (record { place = w.place; kind = k }) c.left c.right out → (t : Tree E) → Sheet x root t → n < size t → (g : Leads t n w) → (out ≡ Some w.place) × Wrote m due x y (record { place = w.place; kind = k }) g.left g.right
      written out mends t s h g =
          let i = w.place in
          let at = cell_at x root n w find t s h g in
          let e : c ≡ cell g.left g.kind g.stored g.right = some_one (read ∙ at) in
          let was = node g.left i g.kind g.stored g.right in
          let st = (around_whole x g.up was (subst (Stands x) g.whole s.stands)).1 in
          let lo = low t s.balanced s.few in
          let few = s.few in
          let ht : height t ≡ height (plug g.up was) = ap height g.whole in
          let sz : size t ≡ size (plug g.up was) = ap size g.whole in
          let dp = plug_deep g.up was in
          let sp = plug-size g.up was in
          let one = here_same i in
          let d = s.distinct i in
          let ct : count i t ≡ count i (plug g.up was) = ap (count i) g.whole in
          let cp = plug-count i g.up was in
          mend_wrote x y (record { place = i; kind = k }) c.left c.right out g.left g.right mends st.1 st.2 (ap (λ (v : Cell E). v.left) e) (ap (λ (v : Cell E). v.right) e) (omega arith, omega arith) (nth_within x i _ at) (omega arith) (omega arith)

      pub replace_no_start : (out : Option ℕ) → Mends m due x y (record { place = w.place; kind = k }) c.left c.right None → Replaces m due mode told tells x z root n k out
      replace_no_start out mends t s h = absurd (none-some (written None mends t s h (leads_at x root n w find t s h)).0)

      pub replace_done : (due → Lawful m) → (start : ℕ) (out : Option ℕ) → Mends m due x y (record { place = w.place; kind = k }) c.left c.right (Some start) → Renews m due y z w.way start out → ((most : ℕ) → 2 + 2 * w.way.depth ≤ most → Spent (cost mode most) told tells) → Replaces m due mode told tells x z root n k out
      replace_done laws start out mends renews spent t s h =
          let g = leads_at x root n w find t s h in
          let i = w.place in
          let up = g.up in
          let l = g.left in
          let r = g.right in
          let was = node l i g.kind g.stored r in
          let wr = written (Some start) mends t s h g in
          let new = node l i k wr.1.stored r in
          let lo = low t s.balanced s.few in
          let few = s.few in
          let ht : height t ≡ height (plug up was) = ap height g.whole in
          let sz : size t ≡ size (plug up was) = ap size g.whole in
          let dp = plug_deep up was in
          let hn = plug-height up new was (omega arith) in
          let s₁ = plug-size up was in
          let s₂ = plug-size up new in
          let ct : (q : ℕ) → count q (plug up new) ≡ count q t = (λ q. let a : count q t ≡ count q (plug up was) = ap (count q) g.whole in let b = plug-count q up was in let c₁ = plug-count q up new in omega arith) in
          let one = here_same i in
          let ci = ct i in
          let pi = plug-count i up new in
          let di = s.distinct i in
          let away : (q : ℕ) → count q (plug up new) ≡ 0 → q ≢ i = (λ q none. apart_places (plug up new) q i none (omega arith)) in
          let st : Stands y (plug up new) = stands_swap x y up was new refl refl refl (subst (Stands x) g.whole s.stands) wr.1.stands (λ q some. wr.1.other q (λ e. apart_places (plug up leaf) i q (omega arith) some (sym e))) in
          let deep = g.along.deep in
          let d = renews up was new (size l) k g.along (replaced_here i g.kind g.stored wr.1.stored (size l) k l r refl) st wr.0 (λ q. let a = ct q in let b = s.distinct q in omega arith) (omega arith) (omega arith) (omega arith) in
          let u = d.0 in
          let ren = d.2 in
          let rep : Replaced t n k u = subst (λ v. Replaced v n k u) (sym g.whole) (subst (λ v. Replaced (plug up was) v k u) g.row ren.replaced) in
          let kept = replaced_kept t n k u rep in
          let high = kept.high in
          let wide = kept.wide in
          let truth : due → True m t → True m u = (λ o h. let parts = true-parts m up was (subst (True m) g.whole h) in ren.truth o parts.0 (wr.1.fresh o parts.1.1 parts.1.2)) in
          let same : (q : ℕ) → count q t ≡ 0 → slice_get z q ≡ slice_get x q = (λ q none. ren.kept q (ct q ∙ none) ∙ wr.1.other q (away q (ct q ∙ none))) in
          record {
            after = u;
            is = d.1 ∙ kept.root ∙ sym s.top;
            top = kept.root ∙ sym s.top;
            edited = record {
              sheet = record {
                stands = ren.stands;
                top = refl;
                distinct = λ q. let a = kept.places q in let b = s.distinct q in omega arith;
                balanced = kept.balance s.balanced;
                few = omega arith;
              };
              same_rows = kept.word;
              truth = truth;
              sound = λ o h. true_sound (laws o) u (truth o h);
              no_higher = omega arith;
              no_lower = omega arith;
              kept = same;
              others = λ o apart so. stands_kept x z o (λ q some. same q (let a = apart q in omega arith)) so;
              long = ren.long ∙ wr.1.long;
              counted = spent (dearest t) (omega arith);
              by_rows = spent_by_rows mode t u told tells (spent (dearest t) (omega arith));
            };
            replaced = rep;
            products_kept = untouched t n k u rep;
          }
