-- A tree whose cells are given back, as a call to close its sheet wants.
use Rattle.std.proofs.Common.{◌≡◌, ℕ, List, Some, None, Option, refl, arith}
use Rattle.monoid.specs.Meaning.{Meaning}
use Rattle.plain.specs.declared.call.Call.TheVariants.{Close}
use Rattle.cells.specs.declared.cell.Cell.{Cell}
use Rattle.cells.specs.Trees.{leaf}
use Rattle.cells.proofs.Lookup.{some_one, none-some}
use Rattle.unused.specs.declared.list.Unused.{Unused}
use Rattle.unused.specs.Freeing.{Frees}
use Rattle.changes.specs.declared.change.Part.{Part}
use Rattle.changes.specs.declared.change.Change.{Change}
use Rattle.changes.specs.Changes.{ChangesCells}
use Rattle.changes.proofs.Finding.{given_of}

module _ {E : Type 0} (m : Meaning E) (told : ℕ) (x y : List (Cell E)) (part : Part) (tag : ℕ) where
  -- the cells of a tree that stands are found
  pub free_no_tree : (out : Option Change) → Frees x y part.unused part.root None → ChangesCells m (Unit {0}) told told x y part (Close tag) out
  free_no_tree out frees t is found asked = absurd (none-some (frees t is (given_of x part t is found)).given)

  pub free_made : (unused : Unused) (change : Change) → Frees x y part.unused part.root (Some unused) → change ≡ record { root = None; unused = unused.first } → ChangesCells m (Unit {0}) told told x y part (Close tag) (Some change)
  free_made unused change frees change_is t is found asked =
      let d = frees t is (given_of x part t is found) in
      let unused_is = some_one d.given in
      record {
        tree = leaf;
        first = d.next;
        places = d.places;
        given = cc;
        changed = record {
          stands = tt;
          balanced = tt;
          listed = d.listed;
          counts = λ q. let e = d.counts q in omega arith;
          others = λ o apart stands. d.others o stands (λ q. let a = apart q in omega arith);
        };
        word = refl;
        truth = λ order before settled. tt;
        cost = (0, omega arith, omega arith);
        spares = tt;
      }
