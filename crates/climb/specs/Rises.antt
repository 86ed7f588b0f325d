-- The way back up from a subtree that was changed.
use Rattle.std.specs.Prelude.{◌≡◌, ℕ, ◌+◌, ◌^◌, ◌<◌, ◌≤◌, List, [], ◌∷◌, length, Some, Option}
use Rattle.std.specs.List.{slice_get}
use Rattle.monoid.specs.Meaning.{Meaning}
use Rattle.cells.specs.declared.cell.Cell.{Cell}
use Rattle.cells.specs.declared.links.Side.{Side}
use Rattle.cells.specs.Descents.{most_depth}
use Rattle.cells.specs.Trees.{Tree, link, rows, size, height, Balanced, count, Distinct, At, Stands}
use Rattle.cells.specs.Truth.{True}
use Rattle.cells.specs.Mends.{Room}
use Rattle.climb.specs.declared.way.Way.{Way}
use Rattle.climb.specs.Joins.{Apart, Joined}
use Rattle.climb.specs.Frames.{Frame, on_left, on_right, plug, spot, side, Along}

-- the cell of a frame has its kind and its other side, whatever its link to the subtree
abbrev pub FrameAt : {E : Type 0} → List (Cell E) → Frame E → Type 0
FrameAt {E} x (on_left i k p r) = (c : Cell E) × At x i c × (c.kind ≡ k) × (c.right ≡ link r) × Stands x r
FrameAt {E} x (on_right l i k p) = (c : Cell E) × At x i c × (c.kind ≡ k) × (c.left ≡ link l) × Stands x l

abbrev pub Around : {E : Type 0} → List (Cell E) → List (Frame E) → Type 0
Around x [] = Unit {0}
Around x (f ∷ up) = FrameAt x f × Around x up

-- the products of the other sides are true
abbrev pub TrueAt : {E : Type 0} → Meaning E → Frame E → Type 0
TrueAt m (on_left i k p r) = True m r
TrueAt m (on_right l i k p) = True m l

abbrev pub TrueUp : {E : Type 0} → Meaning E → List (Frame E) → Type 0
TrueUp m [] = Unit {0}
TrueUp m (f ∷ up) = TrueAt m f × TrueUp m up

-- a frame joined with a subtree
abbrev pub JoinedAt : {E : Type 0} → Meaning E → Type 0 → List (Cell E) → List (Cell E) → Frame E → Tree E → Tree E → Type 0
JoinedAt m due x y (on_left i k p r) s u = Joined m due x y s (record { place = i; kind = k }) r u
JoinedAt m due x y (on_right l i k p) s u = Joined m due x y l (record { place = i; kind = k }) s u

abbrev pub ApartAt : {E : Type 0} → Frame E → Tree E → Type 0
ApartAt (on_left i k p r) s = Apart s (record { place = i; kind = k }) r × Room s r
ApartAt (on_right l i k p) s = Apart l (record { place = i; kind = k }) s × Room l s

abbrev pub Levels : {E : Type 0} → Meaning E → Type 0 → List (Cell E) → List (Cell E) → ℕ → Side → Option ℕ → Option ℕ → Type 0
Levels {E} m due x y i b a out = (f : Frame E) (s : Tree E) → spot f ≡ i → side f ≡ b → FrameAt x f → Stands x s → a ≡ link s → ApartAt f s → (u : Tree E) × (out ≡ link u) × JoinedAt m due x y f s u

-- u has grown out of s under the frames. Where s came in the place of a subtree of nearly its height in a balanced
-- tree, u is balanced, and its height moves by no more than that of the subtree
pub record Risen {E : Type 0} (m : Meaning E) (due : Type 0) (x y : List (Cell E)) (up : List (Frame E)) (s u : Tree E) : Type 0 where
  pub same_rows : rows u ≡ rows (plug up s)
  pub places : (q : ℕ) → count q u ≡ count q (plug up s)
  pub truth : due → TrueUp m up → True m s → True m u
  pub balance : (old : Tree E) (lo hi : ℕ) → Balanced (plug up old) → Balanced s → height old ≤ height s + lo → height s ≤ height old + hi → lo + hi ≤ 1 → Balanced u × (height (plug up old) ≤ height u + lo) × (height u ≤ height (plug up old) + hi)
  pub stands : Stands y u
  pub kept : (q : ℕ) → count q (plug up s) ≡ 0 → slice_get y q ≡ slice_get x q
  pub long : length y ≡ length x

abbrev pub Rises : {E : Type 0} → Meaning E → Type 0 → List (Cell E) → List (Cell E) → Way → Option ℕ → Option (Option ℕ) → Type 0
Rises {E} m due x y w a out = (up : List (Frame E)) (s : Tree E) → Along w up → Around x up → Stands x s → a ≡ link s → Distinct (plug up s) → height (plug up s) < 2 ^ 8 → size (plug up s) < 2 ^ 16 → length up ≤ most_depth → (u : Tree E) × (out ≡ Some (link u)) × Risen m due x y up s u
