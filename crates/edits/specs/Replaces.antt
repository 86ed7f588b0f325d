-- What replacing the kind of a row does.
use Rattle.std.specs.Prelude.{◌≡◌, ℕ, ◌+◌, ◌-◌, ◌^◌, ◌<◌, ◌≤◌, ◌≢◌, ◌⊎◌, List, length, Some, Option, slice_set}
use Rattle.std.specs.List.{slice_get}
use Rattle.cells.specs.Descents.{most_depth}
use Rattle.rows.specs.declared.kind.Kind.{Kind}
use Rattle.monoid.specs.Meaning.{Meaning}
use Rattle.cells.specs.declared.cell.Cell.{Cell}
use Rattle.cells.specs.declared.mode.Mode.{Mode}
use Rattle.cells.specs.Trees.{Tree, leaf, node, link, rows, size, height, count, Distinct, Stands}
use Rattle.cells.specs.Truth.{True}
use Rattle.cells.specs.Mends.{Room}
use Rattle.climb.specs.declared.way.Way.{Way}
use Rattle.climb.specs.Frames.{Frame, plug, before, Along}
use Rattle.climb.specs.Rises.{TrueUp}
use Rattle.edits.specs.Edited.{Sheet, Edited}
use Rattle.edits.specs.Products.{products, Holds}

-- u is the tree with the kind k at the row that has n rows before it: it stands in the same cells, and stores the same
-- products but for the rows whose stretch holds that row
abbrev pub Replaced : {E : Type 0} → Tree E → ℕ → Kind → Tree E → Type 0
Replaced leaf n k u = ⊥
Replaced {E} (node l i was p r) n k u =
    ((n < size l) × ((l' : Tree E) × (q : E) × Replaced l n k l' × (u ≡ node l' i was q r)))
    ⊎ (((n ≡ size l) × ((q : E) × (u ≡ node l i k q r)))
    ⊎ ((size l < n) × ((r' : Tree E) × (q : E) × Replaced r (n - size l - 1) k r' × (u ≡ node l i was q r'))))

-- what a row stores was refreshed, and no other cell was touched
pub record Freshened {E : Type 0} (m : Meaning E) (due : Type 0) (x y : List (Cell E)) (l : Tree E) (i : ℕ) (k : Kind) (r : Tree E) : Type 0 where
  pub stored : E
  pub stands : Stands y (node l i k stored r)
  pub truth : due → True m l → True m r → True m (node l i k stored r)
  pub other : (q : ℕ) → q ≢ i → slice_get y q ≡ slice_get x q
  pub long : length y ≡ length x

abbrev pub Freshens : {E : Type 0} → Meaning E → Type 0 → List (Cell E) → List (Cell E) → ℕ → Option ℕ → Type 0
Freshens {E} m due x y i out = (l : Tree E) (k : Kind) (p : E) (r : Tree E) → Stands x (node l i k p r) → Distinct (node l i k p r) → Room l r → (out ≡ Some i) × Freshened m due x y l i k r

-- the frames refreshed above a row that was replaced
pub record Renewed {E : Type 0} (m : Meaning E) (due : Type 0) (x y : List (Cell E)) (up : List (Frame E)) (was sub : Tree E) (n : ℕ) (k : Kind) (u : Tree E) : Type 0 where
  pub replaced : Replaced (plug up was) (before up + n) k u
  pub truth : due → TrueUp m up → True m sub → True m u
  pub stands : Stands y u
  pub kept : (q : ℕ) → count q (plug up sub) ≡ 0 → slice_get y q ≡ slice_get x q
  pub long : length y ≡ length x

abbrev pub Renews : {E : Type 0} → Meaning E → Type 0 → List (Cell E) → List (Cell E) → Way → ℕ → Option ℕ → Type 0
Renews {E} m due x y w start out = (up : List (Frame E)) (was sub : Tree E) (n : ℕ) (k : Kind) → Along w up → Replaced was n k sub → Stands x (plug up sub) → Some start ≡ link sub → Distinct (plug up sub) → height (plug up sub) < 2 ^ 8 → size (plug up sub) < 2 ^ 16 → length up ≤ most_depth → (u : Tree E) × (out ≡ link u) × Renewed m due x y up was sub n k u

pub record ReplacedRow {E : Type 0} (m : Meaning E) (due : Type 0) (mode : Mode) (told tells : ℕ) (x y : List (Cell E)) (root : Option ℕ) (t : Tree E) (n : ℕ) (k : Kind) (out : Option ℕ) : Type 0 where
  pub after : Tree E
  pub is : out ≡ root
  pub top : link after ≡ root
  pub edited : Edited m due mode told tells x y (λ q. count q t) t (slice_set (rows t) n k) after
  pub replaced : Replaced t n k after
  pub products_kept : (j : ℕ) → (Holds t j n → ⊥) → slice_get (products after) j ≡ slice_get (products t) j

abbrev pub Replaces : {E : Type 0} → Meaning E → Type 0 → Mode → ℕ → ℕ → List (Cell E) → List (Cell E) → Option ℕ → ℕ → Kind → Option ℕ → Type 0
Replaces {E} m due mode told tells x y root n k out = (t : Tree E) → Sheet x root t → n < size t → ReplacedRow m due mode told tells x y root t n k out
