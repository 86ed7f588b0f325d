-- What inserting a row does.
use Rattle.std.specs.Prelude.{◌≡◌, ℕ, ◌+◌, ◌^◌, ◌<◌, ◌≤◌, List, ◌∷◌, ◌++◌, length, take, drop, Some, Option}
use Rattle.rows.specs.declared.kind.Kind.{Kind}
use Rattle.monoid.specs.Meaning.{Meaning}
use Rattle.monoid.specs.Words.{Word}
use Rattle.cells.specs.declared.cell.Cell.{Cell}
use Rattle.cells.specs.declared.mode.Mode.{Mode}
use Rattle.cells.specs.Trees.{Tree, link, rows, size, count, here}
use Rattle.edits.specs.Edited.{Sheet, Edited}

-- a word with a row more, which has n rows before it
abbrev pub inserted : Word → ℕ → Kind → Word
inserted w n k = take n w ++ (k ∷ drop n w)

pub record Inserted {E : Type 0} (m : Meaning E) (due : Type 0) (mode : Mode) (told tells : ℕ) (x y : List (Cell E)) (t : Tree E) (n : ℕ) (k : Kind) (free : ℕ) (out : Option (Option ℕ)) : Type 0 where
  pub after : Tree E
  pub is : out ≡ Some (link after)
  pub edited : Edited m due mode told tells x y (λ q. count q t + here q free) t (inserted (rows t) n k) after
  pub places : (q : ℕ) → count q after ≡ count q t + here q free

abbrev pub Inserts : {E : Type 0} → Meaning E → Type 0 → Mode → ℕ → ℕ → List (Cell E) → List (Cell E) → Option ℕ → ℕ → Kind → ℕ → Option (Option ℕ) → Type 0
Inserts {E} m due mode told tells x y root n k free out = (t : Tree E) → Sheet x root t → n ≤ size t → size t + 1 < 2 ^ 16 → count free t ≡ 0 → free < length x → Inserted m due mode told tells x y t n k free out
