-- A row inserted, from the walk down and the way up.
use Rattle.std.proofs.Common.{◌≡◌, ℕ, ◌+◌, ◌*◌, ◌<◌, ◌≤◌, List, length, Some, None, Option, sym, refl, ap, ◌∙◌, subst, ⊎_elim, arith}
use Rattle.std.proofs.lemmas.Bool.{cases_eq}
use Rattle.rows.specs.declared.kind.Kind.{Kind}
use Rattle.monoid.specs.Meaning.{Meaning}
use Rattle.monoid.specs.Laws.{Lawful}
use Rattle.cells.specs.declared.cell.Cell.{Cell}
use Rattle.cells.specs.declared.mode.Mode.{Mode}
use Rattle.cells.specs.Trees.{leaf, rows, size, height, Balanced, Stands, count, here, Distinct}
use Rattle.cells.specs.Truth.{True}
use Rattle.cells.specs.Counts.{Spent}
use Rattle.cells.specs.Asking.{cost}
use Rattle.cells.specs.Mends.{row_over, Mends}
use Rattle.cells.proofs.Lookup.{some_one, none-some}
use Rattle.cells.proofs.Frame.{here_same, here_other}
use Rattle.climb.specs.declared.way.Way.{Way}
use Rattle.climb.specs.Frames.{plug}
use Rattle.climb.specs.Rises.{Around, Rises}
use Rattle.climb.proofs.Joining.{Wrote, mend_wrote}
use Rattle.climb.proofs.Plugging.{plug-count, plug-size, plug_near, plug_deep, true-parts, around_kept, around_whole}
use Rattle.edits.specs.Walks.{Gap, FindsGap}
use Rattle.edits.specs.Edited.{dearest}
use Rattle.edits.specs.Inserts.{inserted, Inserts}
use Rattle.edits.proofs.Around.{rows-insert}
use Rattle.edits.proofs.Editing.{low, risen_edited}

module _ {E : Type 0} (m : Meaning E) (due : Type 0) (mode : Mode) (told tells : ℕ) (x y z : List (Cell E)) (root : Option ℕ) (n : ℕ) (k : Kind) (free : ℕ) where
  pub insert-no_way : (out : Option (Option ℕ)) → FindsGap x root n None → Inserts m due mode told tells x z root n k free out
  insert-no_way out find t s h few o l =
      let lo = low t s.balanced s.few in
      absurd (none-some (find t s.stands s.top (omega arith) h).1)

  written : (out : Option ℕ) → Mends m due x y (record { place = free; kind = k }) None None out → free < length x → (out ≡ Some free) × Wrote m due x y (record { place = free; kind = k }) leaf leaf
  written out mends l = mend_wrote x y (record { place = free; kind = k }) None None out leaf leaf mends tt tt refl refl (omega arith, omega arith) l refl refl

  pub insert_no_start : (out : Option (Option ℕ)) → Mends m due x y (record { place = free; kind = k }) None None None → Inserts m due mode told tells x z root n k free out
  insert_no_start out mends t s h few o l = absurd (none-some (written None mends l).0)

  pub insert_done : (laws : due → Lawful m) (w : Way) (start : ℕ) (out : Option (Option ℕ)) → FindsGap x root n (Some w) → Mends m due x y (record { place = free; kind = k }) None None (Some start) → Rises m due y z w (Some start) out → ((most : ℕ) → 2 + 6 * w.depth ≤ most → Spent (cost mode most) told tells) → Inserts m due mode told tells x z root n k free out
  insert_done laws w start out find mends rise spent t s h few o l =
      let lo = low t s.balanced s.few in
      let f = find t s.stands s.top (omega arith) h in
      let a : Gap t n w = subst (λ (v : Way). Gap t n v) (sym (some_one f.1)) f.2 in
      let up = a.up in
      let d = written (Some start) mends l in
      let new = row_over leaf (record { place = free; kind = k }) d.1.stored leaf in
      let hw : height t ≡ height (plug up leaf) = ap height a.whole in
      let sw : size t ≡ size (plug up leaf) = ap size a.whole in
      let cw : (q : ℕ) → count q (plug up new) ≡ count q t + here q free = (λ q. let e : count q t ≡ count q (plug up leaf) = ap (count q) a.whole in let e₂ = plug-count q up new in omega arith) in
      let one = here_same free in
      let dis : Distinct (plug up new) = (λ q. let e = cw q in let e₁ = s.distinct q in ⊎_elim (λ eq. let e₂ : count q t ≡ count free t = ap (λ v. count v t) eq in let e₃ : here q free ≡ here free free = ap (λ v. here v free) eq in omega arith) (λ ne. let e₂ = here_other q free ne in omega arith) (cases_eq q free)) in
      let sn = plug-size up new in
      let dp = plug_deep up leaf in
      let dn = plug_near up new leaf 1 (omega arith) in
      let deep = a.along.deep in
      let ar : Around y up = around_kept x y up (λ q p. d.1.other q (λ e. let e₁ : count q t ≡ count free t = ap (λ v. count v t) e in let e₂ : count q t ≡ count q (plug up leaf) = ap (count q) a.whole in omega arith)) (around_whole x up leaf (subst (Stands x) a.whole s.stands)).0 in
      let g = rise up new a.along ar d.1.stands d.0 dis (omega arith) (omega arith) (omega arith) in
      let u = g.0 in
      let word = inserted (rows t) n k in
      let ew : rows (plug up new) ≡ word = rows-insert up free k d.1.stored n a.row ∙ ap (λ v. inserted (rows v) n k) (sym a.whole) in
      record {
        after = u;
        is = g.1;
        edited = risen_edited m due laws mode told tells x y z (λ q. count q t + here q free) t word up leaf new u 0 1 (subst Balanced a.whole s.balanced) (sym hw) (λ o tr. ((true-parts m up leaf (subst (True m) a.whole tr)).0, d.1.fresh o tt tt)) ((omega arith, omega arith), tt, tt) (omega arith) (omega arith) (omega arith) dis (omega arith) g.2 ew (λ q none. cw q ∙ none) (λ q none. d.1.other q (λ e. let e₁ : here q free ≡ here free free = ap (λ v. here v free) e in omega arith)) d.1.long (spent (dearest t) (omega arith));
        places = λ q. g.2.places q ∙ cw q;
      }
