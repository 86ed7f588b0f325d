-- A row struck, and its cell given back, from the edit of the tree and the cell put before the unused ones.
use Rattle.std.proofs.Common.{◌≡◌, ℕ, ◌-◌, ◌<◌, min, max, List, ◌∷◌, ◌++◌, length, take, drop, Some, None, Option, ap, ◌∙◌, subst, add-one, arith}
use Rattle.monoid.specs.Meaning.{Meaning}
use Rattle.plain.specs.declared.call.Call.TheVariants.{Strike}
use Rattle.cells.specs.declared.cell.Cell.{Cell}
use Rattle.cells.specs.declared.mode.Mode.{Mode}
use Rattle.cells.specs.Trees.{Tree, rows, size, count}
use Rattle.cells.specs.Asking.{Due}
use Rattle.cells.proofs.Frame.{here_same, stands_kept}
use Rattle.cells.proofs.Lookup.{some_one, none-some}
use Rattle.unused.specs.declared.list.Unused.{Unused}
use Rattle.unused.specs.Listed.{Threads, Gives}
use Rattle.edits.specs.declared.strike.Struck.{Struck}
use Rattle.edits.specs.Edited.{dearest_of}
use Rattle.edits.specs.Strikes.{StruckRow, Strikes}
use Rattle.changes.specs.declared.change.Part.{Part}
use Rattle.changes.specs.declared.change.Change.{Change}
use Rattle.changes.specs.Changes.{Found, Askable, mode_in, Changed, ChangesCells}
use Rattle.changes.proofs.Finding.{edit_as, place-within, sheet_of, unused_kept}
use Rattle.changes.proofs.Owing.{truth_in, cost_in}

module _ {E : Type 0} (m : Meaning E) (Orderly : Type 0) (told tells : ℕ) (x y : List (Cell E)) (part : Part) (tag row : ℕ) (mode : Mode) (n : ℕ) (mode_is : mode ≡ mode_in part.state) (n_is : n ≡ min (row - 1) 65535) where
  striking : (out : Option Struck) → Strikes m (Due mode Orderly) mode told tells x y part.root n out → (t : Tree E) (is : List ℕ) → Found x part t is → Askable (Strike tag row) (size t) (length is) → StruckRow m (Due (mode_in part.state) Orderly) (mode_in part.state) told tells x y t (row - 1) out
  striking out strikes t is found asked =
      let few = found.few in
      let low = asked.0 in
      let high = asked.1 in
      edit_as (λ v k. Strikes m (Due v Orderly) v told tells x y part.root k out) part.state mode n row mode_is n_is (omega arith) strikes t (sheet_of x part t is found) (omega arith)

  -- the cell that is free was one of the tree's
  module _ (t : Tree E) (is : List ℕ) (found : Found x part t is) (out : Option Struck) (d : StruckRow m (Due (mode_in part.state) Orderly) (mode_in part.state) told tells x y t (row - 1) out) where
    freed_once : 0 < count d.freed t
    freed_once = let e = d.places d.freed in let one = here_same d.freed in omega arith

    freed_within : (freed : ℕ) → freed ≡ d.freed → freed < length y
    freed_within freed e = let w = place-within x t d.freed found.stands freed_once in let long = d.edited.long in omega arith

    -- it comes before the unused ones
    struck_changed : (z : List (Cell E)) → Threads y z part.unused d.freed → Changed x z t d.after is (d.freed ∷ is) (Some d.freed)
    struck_changed z threads =
        let edited = d.edited in
        let u = d.after in
        let freed = d.freed in
        let once = freed_once in
        let one = here_same freed in
        record {
          stands = stands_kept y z u (λ q some. threads.kept q (λ e. let p = d.places freed in let a = found.apart freed in let c : count q u ≡ count freed u = ap (λ v. count v u) e in omega arith)) edited.sheet.stands;
          balanced = edited.sheet.balanced;
          listed = threads.listed is (unused_kept x part t is found y (λ q none. edited.kept q (let p = d.places q in omega arith))) (let a = found.apart freed in omega arith);
          counts = λ q. let p = d.places q in omega arith;
          others = λ o apart stands.
              stands_kept y z o
              (λ q some. threads.kept q (λ e. let a = apart q in let c : count q t ≡ count freed t = ap (λ v. count v t) e in omega arith))
              (edited.others o (λ q. let a = apart q in let p = d.places q in omega arith) stands);
        }

  -- the cell that is free is given back where it is among the cells
  pub strike_no_cell : (z : List (Cell E)) (gone : Struck) (out : Option Change) → Strikes m (Due mode Orderly) mode told tells x y part.root n (Some gone) → Gives y z part.unused gone.freed None → ChangesCells m Orderly told tells x z part (Strike tag row) out
  strike_no_cell z gone out strikes gives t is found asked =
      let d = striking (Some gone) strikes t is found asked in
      let freed_is : gone.freed ≡ d.freed = ap {A = Struck} (λ v. v.freed) (some_one d.is) in
      absurd (none-some (gives.made (freed_within t is found (Some gone) d gone.freed freed_is)).0)

  pub strike_made : (z : List (Cell E)) (gone : Struck) (unused : Unused) (change : Change) → Strikes m (Due mode Orderly) mode told tells x y part.root n (Some gone) → Gives y z part.unused gone.freed (Some unused) → change ≡ record { root = gone.root; unused = unused.first } → ChangesCells m Orderly told tells x z part (Strike tag row) (Some change)
  strike_made z gone unused change strikes gives change_is t is found asked =
      let d = striking (Some gone) strikes t is found asked in
      let edited = d.edited in
      let u = d.after in
      let gone_is = some_one d.is in
      let freed_is : gone.freed ≡ d.freed = ap {A = Struck} (λ v. v.freed) gone_is in
      let made = gives.made (freed_within t is found (Some gone) d gone.freed freed_is) in
      let unused_is = some_one made.0 in
      record {
        tree = u;
        first = Some d.freed;
        places = d.freed ∷ is;
        given = cc;
        changed = struck_changed t is found (Some gone) d z (subst (λ (v : ℕ). Threads y z part.unused v) freed_is made.1);
        word = edited.same_rows ∙ ap (λ v. take (row - 1) (rows t) ++ drop v (rows t)) (add-one (row - 1));
        truth = truth_in m Orderly t u part.state edited.truth;
        cost = cost_in part.state (dearest_of (max (size t) (size u))) told tells (edited.by_rows found.balanced);
        spares = tt;
      }
