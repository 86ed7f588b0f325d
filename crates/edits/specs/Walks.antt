-- Where a walk down a tree leads.
use Rattle.std.specs.Prelude.{◌≡◌, ℕ, ◌+◌, ◌<◌, ◌≤◌, List, ◌∷◌, ◌++◌, length, Some, None, Option}
use Rattle.cells.specs.Descents.{most_depth}
use Rattle.rows.specs.declared.kind.Kind.{Kind}
use Rattle.cells.specs.declared.cell.Cell.{Cell}
use Rattle.cells.specs.declared.links.Side.{Side}
use Rattle.cells.specs.declared.links.Side.TheVariants.{Left, Right}
use Rattle.cells.specs.Trees.{Tree, leaf, node, link, size, height, Stands}
use Rattle.climb.specs.declared.way.Way.{Way}
use Rattle.climb.specs.Frames.{Frame, spot, side, plug, before, Along}
use Rattle.edits.specs.declared.find.Aim.{Aim}
use Rattle.edits.specs.declared.find.Aim.TheVariants.{Row, Gap as InGap}
use Rattle.edits.specs.declared.find.Fork.{Fork}
use Rattle.edits.specs.declared.find.Found.{Found}
use Rattle.edits.specs.declared.find.Reached.{Reached}

-- the row at a place, by its two sides
abbrev pub fork : {E : Type 0} → Tree E → Tree E → Fork
fork l r = record { links = record { left = link l; right = link r }; before = size l }

abbrev pub ForksAt : {E : Type 0} → List (Cell E) → ℕ → Option Fork → Type 0
ForksAt {E} cells i out = (l : Tree E) (k : Kind) (p : E) (r : Tree E) → Stands cells (node l i k p r) → out ≡ Some (fork l r)

-- the row of t with n rows before it
pub record Leads {E : Type 0} (t : Tree E) (n : ℕ) (w : Found) : Type 0 where
  pub up : List (Frame E)
  pub left : Tree E
  pub kind : Kind
  pub stored : E
  pub right : Tree E
  pub whole : t ≡ plug up (node left w.place kind stored right)
  pub row : before up + size left ≡ n
  pub along : Along w.way up

abbrev pub Finds : {E : Type 0} → List (Cell E) → Option ℕ → ℕ → Option Found → Type 0
Finds {E} cells root n out = (t : Tree E) → Stands cells t → root ≡ link t → height t ≤ most_depth → n < size t → (w : Found) × (out ≡ Some w) × Leads t n w

-- the gap of t with n rows before it
pub record Gap {E : Type 0} (t : Tree E) (n : ℕ) (w : Way) : Type 0 where
  pub up : List (Frame E)
  pub whole : t ≡ plug up leaf
  pub row : before up ≡ n
  pub along : Along w up

abbrev pub FindsGap : {E : Type 0} → List (Cell E) → Option ℕ → ℕ → Option Way → Type 0
FindsGap {E} cells root n out = (t : Tree E) → Stands cells t → root ≡ link t → height t < most_depth → n ≤ size t → (w : Way) × (out ≡ Some w) × Gap t n w

-- a row that is looked for has itself behind the rows before it, and a gap has nothing
abbrev pub spare : Aim → ℕ
spare Row = 1
spare InGap = 0

-- where a walk ends, and where it goes on, at a row with so many rows before it in its subtree
abbrev pub Stops : Aim → ℕ → ℕ → Type 0
Stops Row n before = n ≡ before
Stops InGap n before = ⊥

abbrev pub Turns : Aim → ℕ → ℕ → Option Side → Type 0
Turns aim n before None = Stops aim n before
Turns aim n before (Some Left) = n + spare aim ≤ before
Turns aim n before (Some Right) = before < n

-- what was looked for, where the walk ended
abbrev pub Reaches : {E : Type 0} → Aim → Tree E → ℕ → Reached → Type 0
Reaches Row t n w = (i : ℕ) × (w.place ≡ Some i) × Leads t n (record { way = w.way; place = i })
Reaches InGap t n w = (w.place ≡ None) × Gap t n w.way

abbrev pub Walks : {E : Type 0} → Aim → List (Cell E) → Option ℕ → ℕ → Option Reached → Type 0
Walks {E} aim cells root n out = (t : Tree E) → Stands cells t → root ≡ link t → height t < most_depth + spare aim → n + spare aim ≤ size t → (w : Reached) × (out ≡ Some w) × Reaches aim t n w

-- the first row of r, which stands under the frames
pub record Lowest {E : Type 0} (up : List (Frame E)) (r : Tree E) (w : Found) : Type 0 where
  pub down : List (Frame E)
  pub kind : Kind
  pub stored : E
  pub right : Tree E
  pub whole : r ≡ plug down (node leaf w.place kind stored right)
  pub first : before down ≡ 0
  pub along : Along w.way (down ++ up)

-- f is the frame of a row, with r on its right
abbrev pub Lowers : {E : Type 0} → List (Cell E) → Found → ℕ → Option Found → Type 0
Lowers {E} cells w j out = (f : Frame E) (up : List (Frame E)) (r : Tree E) → spot f ≡ w.place → side f ≡ Right → Along w.way up → Stands cells r → Some j ≡ link r → height r + length up + 1 ≤ most_depth → (v : Found) × (out ≡ Some v) × Lowest (f ∷ up) r v
