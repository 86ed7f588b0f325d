-- A row inserted in an unused cell, from the cell that was taken and the edit of the tree.
use Rattle.std.proofs.Common.{◌≡◌, ℕ, ◌-◌, min, max, List, [], ◌∷◌, length, Some, None, Option, ap, subst, arith}
use Rattle.rows.specs.declared.kind.Kind.{Kind}
use Rattle.monoid.specs.Meaning.{Meaning}
use Rattle.plain.specs.declared.call.Call.TheVariants.{Insert}
use Rattle.cells.specs.declared.cell.Cell.{Cell}
use Rattle.cells.specs.declared.mode.Mode.{Mode}
use Rattle.cells.specs.Trees.{Tree, size}
use Rattle.cells.specs.Asking.{Due}
use Rattle.cells.proofs.Frame.{here_same}
use Rattle.cells.proofs.Lookup.{some_one, none-some, nth_within}
use Rattle.unused.specs.declared.list.Taken.{Taken}
use Rattle.unused.specs.Listed.{Takes}
use Rattle.unused.proofs.Threading.{listed_kept}
use Rattle.edits.specs.Edited.{dearest_of}
use Rattle.edits.specs.Inserts.{Inserted, Inserts}
use Rattle.changes.specs.declared.change.Part.{Part}
use Rattle.changes.specs.declared.change.Change.{Change}
use Rattle.changes.specs.Changes.{Found, Askable, mode_in, ChangesCells}
use Rattle.changes.proofs.Finding.{edit_as, sheet_of}
use Rattle.changes.proofs.Owing.{truth_in, cost_in}

module _ {E : Type 0} (m : Meaning E) (Orderly : Type 0) (told tells : ℕ) (x y : List (Cell E)) (part : Part) (tag row : ℕ) (kind : Kind) where
  -- a cell is taken where one is unused
  pub insert_no_cell : (out : Option Change) → Takes x part.unused None → ChangesCells m Orderly told tells x y part (Insert tag row kind) out
  insert_no_cell out takes t [] found asked = let some = asked.2 in absurd (omega arith)
  insert_no_cell out takes t (i ∷ is) found asked = absurd (none-some (takes.made i is found.listed).1)

  module _ (mode : Mode) (n : ℕ) (mode_is : mode ≡ mode_in part.state) (n_is : n ≡ min (row - 1) 65535) (taken : Taken) (takes : Takes x part.unused (Some taken)) where
    insertion : (root : Option (Option ℕ)) → Inserts m (Due mode Orderly) mode told tells x y part.root n kind taken.place root → (t : Tree E) (i : ℕ) (is : List ℕ) → Found x part t (i ∷ is) → Askable (Insert tag row kind) (size t) (length (i ∷ is)) → Inserted m (Due (mode_in part.state) Orderly) (mode_in part.state) told tells x y t (row - 1) kind i root
    insertion root inserts t i is found asked =
        let few = found.few in
        let low = asked.0 in
        let high = asked.1 in
        let apart = found.apart i in
        let one = here_same i in
        let place : taken.place ≡ i = ap {A = Taken} (λ v. v.place) (some_one (takes.made i is found.listed).1) in
        let here = subst (λ (v : ℕ). Inserts m (Due mode Orderly) mode told tells x y part.root n kind v root) place inserts in
        edit_as (λ v k. Inserts m (Due v Orderly) v told tells x y part.root k kind i root) part.state mode n row mode_is n_is (omega arith) here t (sheet_of x part t (i ∷ is) found) (omega arith) (omega arith) (omega arith) (nth_within x i found.listed.0 found.listed.2)

    -- the row is found where it is among those that there are, or the next
    pub insert_no_row : (out : Option Change) → Inserts m (Due mode Orderly) mode told tells x y part.root n kind taken.place None → ChangesCells m Orderly told tells x y part (Insert tag row kind) out
    insert_no_row out inserts t [] found asked = let some = asked.2 in absurd (omega arith)
    insert_no_row out inserts t (i ∷ is) found asked = absurd (none-some (insertion None inserts t i is found asked).is)

    pub insert_made : (root : Option ℕ) (change : Change) → Inserts m (Due mode Orderly) mode told tells x y part.root n kind taken.place (Some root) → change ≡ record { root = root; unused = taken.rest.first } → ChangesCells m Orderly told tells x y part (Insert tag row kind) (Some change)
    insert_made root change inserts change_is t [] found asked = let some = asked.2 in absurd (omega arith)
    insert_made root change inserts change_is t (i ∷ is) found asked =
        let d = insertion (Some root) inserts t i is found asked in
        let edited = d.edited in
        let u = d.after in
        let made = takes.made i is found.listed in
        let next = made.0 in
        let root_is = some_one d.is in
        let next_is : taken.rest.first ≡ next = ap {A = Taken} (λ v. v.rest.first) (some_one made.1) in
        record {
          tree = u;
          first = next;
          places = is;
          given = cc;
          changed = record {
            stands = edited.sheet.stands;
            balanced = edited.sheet.balanced;
            listed = listed_kept x y next is (λ q some. edited.kept q (let a = found.apart q in omega arith)) made.2;
            counts = λ q. let e = d.places q in omega arith;
            others = λ o apart stands. edited.others o (λ q. let a = apart q in omega arith) stands;
          };
          word = edited.same_rows;
          truth = truth_in m Orderly t u part.state edited.truth;
          cost = cost_in part.state (dearest_of (max (size t) (size u))) told tells (edited.by_rows found.balanced);
          spares = tt;
        }
