-- Cells that agree at the places of a tree hold it alike.
use Rattle.std.proofs.Common.{◌≡◌, ℕ, ◌<◌, ◌≢◌, List, length, ◌∙◌, arith, length-append}
use Rattle.std.specs.List.{slice_get}
use Rattle.std.proofs.lemmas.Bool.Decides.{nat_tests}
use Rattle.cells.specs.declared.cell.Cell.{Cell}
use Rattle.cells.specs.Trees.{Tree, leaf, node, size, rows, count, here, Stands}

pub here_same : (i : ℕ) → here i i ≡ 1
here_same i = grind (arith, nat_tests)

pub here_other : (q i : ℕ) → q ≢ i → here q i ≡ 0
here_other q i h = grind (arith, nat_tests)

pub stands_kept : {E : Type 0} (x y : List (Cell E)) (t : Tree E) → ((q : ℕ) → 0 < count q t → slice_get y q ≡ slice_get x q) → Stands x t → Stands y t
stands_kept x y leaf same s = tt
stands_kept x y (node l i k p r) same s =
    let one = here_same i in (
      same i (omega arith) ∙ s.0,
      stands_kept x y l (λ q h. same q (omega arith)) s.1,
      stands_kept x y r (λ q h. same q (omega arith)) s.2,
    )

pub rows_long : {E : Type 0} (t : Tree E) → length (rows t) ≡ size t
rows_long leaf = omega arith
rows_long (node l i k p r) = let a = rows_long l in let b = rows_long r in simp length-append (omega arith)
