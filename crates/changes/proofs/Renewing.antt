-- A tree whose products are computed anew, as a call for it wants.
use Rattle.std.proofs.Common.{◌≡◌, ℕ, ◌*◌, List, Some, None, Option, arith}
use Rattle.monoid.specs.Meaning.{Meaning}
use Rattle.plain.specs.declared.call.Call.TheVariants.{Recalculate}
use Rattle.cells.specs.declared.cell.Cell.{Cell}
use Rattle.cells.specs.Trees.{Tree, size}
use Rattle.cells.proofs.Lookup.{none-some}
use Rattle.unused.specs.declared.list.Unused.{Unused}
use Rattle.whole.specs.Renewing.{Recomputes, Recomputed, RecomputeCosts}
use Rattle.changes.specs.declared.change.Part.{Part}
use Rattle.changes.specs.declared.change.Change.{Change}
use Rattle.changes.specs.Changes.{Found, ChangesCells}
use Rattle.changes.proofs.Finding.{sheet_of, rooted_of}

module _ {E : Type 0} (m : Meaning E) (Orderly : Type 0) (told tells : ℕ) (x y : List (Cell E)) (part : Part) (tag : ℕ) where
  renewing : (out : Option ℕ) → Recomputes m Orderly x y part.root out → (t : Tree E) (is : List ℕ) → Found x part t is → Recomputed m Orderly x y part.root t out
  renewing out recomputes t is found = recomputes t (rooted_of x part t is found) (sheet_of x part t is found).distinct

  -- the rows of a tree that stands are found
  pub renew_no_rows : (out : Option Change) → Recomputes m Orderly x y part.root None → ChangesCells m Orderly told tells x y part (Recalculate tag) out
  renew_no_rows out recomputes t is found asked = absurd (none-some (renewing None recomputes t is found).given)

  pub renew_made : (rows : ℕ) (unused : Unused) (change : Change) → Recomputes m Orderly x y part.root (Some rows) → RecomputeCosts x part.root told tells → unused ≡ record { first = part.unused } → change ≡ record { root = part.root; unused = unused.first } → ChangesCells m Orderly told tells x y part (Recalculate tag) (Some change)
  renew_made rows unused change recomputes costs unused_is change_is t is found asked =
      let d = renewing (Some rows) recomputes t is found in
      let u = d.next in
      let top = d.rooted.top in
      let asks = costs.exact t (rooted_of x part t is found) (sheet_of x part t is found).distinct in
      record {
        tree = u;
        first = part.unused;
        places = is;
        given = cc;
        changed = record {
          stands = d.rooted.stands;
          balanced = d.balance found.balanced;
          listed = d.unused part.unused is found.listed (λ q. let a = found.apart q in omega arith);
          counts = λ q. let e = d.counts q in omega arith;
          others = λ o apart stands. d.others o stands (λ q. let a = apart q in omega arith);
        };
        word = d.word;
        truth = λ order before settled. d.truth order;
        cost = (2 * size t, omega arith, asks);
        spares = tt;
      }
