-- The tree of a sheet and the unused cells that a call finds are as the edits and walks want them.
use Rattle.std.proofs.Common.{◌≡◌, ℕ, ◌-◌, ◌<◌, ◌≤◌, min, List, length, subst, ⊎_elim, arith}
use Rattle.std.specs.List.{slice_get}
use Rattle.std.proofs.lemmas.Bool.{cases_eq, cases_lt}
use Rattle.plain.specs.declared.state.State.{State}
use Rattle.cells.specs.declared.cell.Cell.{Cell}
use Rattle.cells.specs.declared.mode.Mode.{Mode}
use Rattle.cells.specs.Trees.{Tree, leaf, node, count, cell, Stands}
use Rattle.cells.specs.Rooted.{Rooted}
use Rattle.cells.proofs.Frame.{here_other}
use Rattle.cells.proofs.Lookup.{nth_within}
use Rattle.unused.specs.Listed.{Listed}
use Rattle.unused.specs.Freeing.{Given}
use Rattle.unused.proofs.Threading.{listed_kept}
use Rattle.edits.specs.Edited.{Sheet}
use Rattle.edits.proofs.Editing.{low}
use Rattle.changes.specs.declared.change.Part.{Part}
use Rattle.changes.specs.Changes.{Found, mode_in}

-- an edit is made in the mode of the sheet's state, and the rows before its row, which is among so few, are counted in 16 bits
pub edit_as : (Edits : Mode → ℕ → Type 0) (s : State) (mode : Mode) (n row : ℕ) → mode ≡ mode_in s → n ≡ min (row - 1) 65535 → row ≤ 4097 → Edits mode n → Edits (mode_in s) (row - 1)
edit_as Edits s mode n row mode_is n_is few edits =
    let before : n ≡ row - 1 = omega arith in
    subst (λ (v : ℕ). Edits (mode_in s) v) before (subst (λ (v : Mode). Edits v n) mode_is edits)

-- a place of a tree that stands is one of the cells
pub place-within : {E : Type 0} (x : List (Cell E)) (t : Tree E) (q : ℕ) → Stands x t → 0 < count q t → q < length x
place-within x leaf q s h = absurd (omega arith)
place-within x (node l i k p r) q s h =
    ⊎_elim
    (λ left. place-within x l q s.1 left)
    (λ no_left.
    ⊎_elim
    (λ right. place-within x r q s.2 right)
    (λ no_right.
    ⊎_elim
    (λ eq. let w = nth_within x i (cell l k p r) s.0 in omega arith)
    (λ ne. let o = here_other q i ne in absurd (omega arith))
    (cases_eq q i))
    (cases_lt 0 (count q r)))
    (cases_lt 0 (count q l))

module _ {E : Type 0} (x : List (Cell E)) (part : Part) (t : Tree E) (is : List ℕ) (f : Found x part t is) where
  pub sheet_of : Sheet x part.root t
  sheet_of = let few = f.few in record { stands = f.stands; top = f.top; distinct = λ q. let a = f.apart q in omega arith; balanced = f.balanced; few = omega arith }

  -- a balanced tree of so few rows is not too deep for a walk
  pub rooted_of : Rooted x part.root t
  rooted_of = let few = f.few in let h = low t f.balanced (omega arith) in record { stands = f.stands; top = f.top; low = omega arith }

  pub given_of : Given x part.unused part.root t is
  given_of = record { rooted = rooted_of; listed = f.listed; apart = f.apart }

  -- a write to places of the tree alone leaves the unused cells as they were
  pub unused_kept : (y : List (Cell E)) → ((q : ℕ) → count q t ≡ 0 → slice_get y q ≡ slice_get x q) → Listed y part.unused is
  unused_kept y same = listed_kept x y part.unused is (λ q some. same q (let a = f.apart q in omega arith)) f.listed
