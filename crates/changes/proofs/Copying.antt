-- A tree copied into unused cells, as a call for it wants.
use Rattle.std.proofs.Common.{◌≡◌, ℕ, ◌≤◌, List, length, Some, None, Option, ap, ◌∙◌, arith}
use Rattle.monoid.specs.Meaning.{Meaning}
use Rattle.plain.specs.declared.call.Call.TheVariants.{Copy}
use Rattle.cells.specs.declared.cell.Cell.{Cell}
use Rattle.cells.specs.Trees.{Tree, size}
use Rattle.cells.proofs.Lookup.{some_one, none-some}
use Rattle.whole.specs.declared.copying.Copied.{Copied}
use Rattle.whole.specs.Copying.{Copies, CopyMade}
use Rattle.changes.specs.declared.change.Part.{Part}
use Rattle.changes.specs.declared.change.Change.{Change}
use Rattle.changes.specs.Changes.{Found, ChangesCells}
use Rattle.changes.proofs.Finding.{given_of}

module _ {E : Type 0} (m : Meaning E) (told : ℕ) (x y : List (Cell E)) (part : Part) (tag new : ℕ) where
  copying : (out : Option Copied) → Copies x y part.unused part.root out → (t : Tree E) (is : List ℕ) → Found x part t is → size t ≤ length is → CopyMade x y t is out
  copying out copies t is found enough = copies.made t is (given_of x part t is found) enough

  -- a tree is copied where enough cells are unused
  pub copy_no_room : (out : Option Change) → Copies x y part.unused part.root None → ChangesCells m (Unit {0}) told told x y part (Copy tag new) out
  copy_no_room out copies t is found asked = absurd (none-some (copying None copies t is found asked).given)

  pub copy_made : (copied : Copied) (change : Change) → Copies x y part.unused part.root (Some copied) → change ≡ record { root = copied.root; unused = copied.unused.first } → ChangesCells m (Unit {0}) told told x y part (Copy tag new) (Some change)
  copy_made copied change copies change_is t is found asked =
      let d = copying (Some copied) copies t is found asked in
      record {
        tree = d.copy;
        first = d.next;
        places = d.rest;
        given = ap Some change_is ∙ ap {A = Copied} (λ v. Some (record { root = v.root; unused = v.unused.first })) (some_one d.given);
        changed = record {
          stands = d.stands;
          balanced = d.balance found.balanced;
          listed = d.listed;
          counts = λ q. let e = d.counts q in omega arith;
          others = λ o apart stands. d.others o stands (λ q. let a = apart q in omega arith);
        };
        word = d.word;
        truth = λ order before settled. d.truth m (before settled);
        cost = (0, omega arith, omega arith);
        spares = tt;
      }
