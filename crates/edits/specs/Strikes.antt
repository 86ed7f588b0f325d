-- What striking a row does.
use Rattle.std.specs.Prelude.{◌≡◌, ℕ, ◌+◌, ◌<◌, ◌≤◌, List, ◌++◌, take, drop, Some, None, Option, slice_set}
use Rattle.std.specs.List.{slice_get}
use Rattle.rows.specs.declared.kind.Kind.{Kind}
use Rattle.monoid.specs.Meaning.{Meaning}
use Rattle.monoid.specs.Words.{Word}
use Rattle.cells.specs.declared.cell.Cell.{Cell}
use Rattle.cells.specs.declared.mode.Mode.{Mode}
use Rattle.cells.specs.Trees.{Tree, link, rows, size, height, count, here}
use Rattle.edits.specs.declared.find.Found.{Found}
use Rattle.edits.specs.declared.strike.Struck.{Struck}
use Rattle.edits.specs.Walks.{Leads}
use Rattle.edits.specs.Edited.{Sheet, Edited}

-- a cell with another kind
abbrev pub recast : {E : Type 0} → Cell E → Kind → Cell E
recast c k = record { kind = k; left = c.left; right = c.right; height = c.height; size = c.size; product = c.product }

abbrev pub Recasts : {E : Type 0} → List (Cell E) → List (Cell E) → ℕ → Kind → Type 0
Recasts {E} x y i k = (c : Cell E) → slice_get x i ≡ Some c → y ≡ slice_set x i (recast c k)

-- a word without the row that has n rows before it
abbrev pub struck : Word → ℕ → Word
struck w n = take n w ++ drop (n + 1) w

-- the cell that is free afterwards is one of the tree's, and is left as it was
pub record StruckRow {E : Type 0} (m : Meaning E) (due : Type 0) (mode : Mode) (told tells : ℕ) (x y : List (Cell E)) (t : Tree E) (n : ℕ) (out : Option Struck) : Type 0 where
  pub after : Tree E
  pub freed : ℕ
  pub is : out ≡ Some (record { root = link after; freed = freed })
  pub edited : Edited m due mode told tells x y (λ q. count q after) t (struck (rows t) n) after
  pub places : (q : ℕ) → count q after + here q freed ≡ count q t
  pub low : height after ≤ height t

-- with nothing on the right of the row, and with a row there
abbrev pub StrikesEnd : {E : Type 0} → Meaning E → Type 0 → Mode → ℕ → ℕ → List (Cell E) → List (Cell E) → Found → Option ℕ → Option Struck → Type 0
StrikesEnd {E} m due mode told tells x y w a out = (root : Option ℕ) (t : Tree E) (n : ℕ) → Sheet x root t → (g : Leads t n w) → a ≡ link g.left → None ≡ link g.right → StruckRow m due mode told tells x y t n out

abbrev pub StrikesInner : {E : Type 0} → Meaning E → Type 0 → Mode → ℕ → ℕ → List (Cell E) → List (Cell E) → Found → ℕ → Option Struck → Type 0
StrikesInner {E} m due mode told tells x y w j out = (root : Option ℕ) (t : Tree E) (n : ℕ) → Sheet x root t → (g : Leads t n w) → Some j ≡ link g.right → StruckRow m due mode told tells x y t n out

abbrev pub Strikes : {E : Type 0} → Meaning E → Type 0 → Mode → ℕ → ℕ → List (Cell E) → List (Cell E) → Option ℕ → ℕ → Option Struck → Type 0
Strikes {E} m due mode told tells x y root n out = (t : Tree E) → Sheet x root t → n < size t → StruckRow m due mode told tells x y t n out
