-- A tree opened at one of its subtrees: the rows above it, each with its other side.
use Rattle.std.specs.Prelude.{◌≡◌, ℕ, ◌+◌, List, [], ◌∷◌, length, slice_index_or}
use Rattle.rows.specs.declared.kind.Kind.{Kind}
use Rattle.cells.specs.Trees.{Tree, node, size}
use Rattle.cells.specs.declared.links.Side.{Side}
use Rattle.cells.specs.declared.links.Side.TheVariants.{Left, Right}
use Rattle.climb.specs.declared.way.Step.{Step}
use Rattle.climb.specs.declared.way.Way.{Way}
use Rattle.climb.specs.Ways.{no_step}

-- the row above a subtree, which hangs on its left or on its right
pub data Frame (E : Type 0) : Type 0 where
  on_left : ℕ → Kind → E → Tree E → Frame E
  on_right : Tree E → ℕ → Kind → E → Frame E

abbrev pub spot : {E : Type 0} → Frame E → ℕ
spot (on_left i k p r) = i
spot (on_right l i k p) = i

abbrev pub side : {E : Type 0} → Frame E → Side
side (on_left i k p r) = Left
side (on_right l i k p) = Right

abbrev pub step : {E : Type 0} → Frame E → Step
step f = record { place = spot f; side = side f }

abbrev pub over : {E : Type 0} → Frame E → Tree E → Tree E
over (on_left i k p r) t = node t i k p r
over (on_right l i k p) t = node l i k p t

-- the whole tree; the lowest frame comes first
abbrev pub plug : {E : Type 0} → List (Frame E) → Tree E → Tree E
plug [] t = t
plug (f ∷ up) t = plug up (over f t)

-- the rows before the subtree, of one frame and of all
abbrev pub front : {E : Type 0} → Frame E → ℕ
front (on_left i k p r) = 0
front (on_right l i k p) = size l + 1

abbrev pub before : {E : Type 0} → List (Frame E) → ℕ
before [] = 0
before (f ∷ up) = before up + front f

-- the stack names the frames, the highest at 0
abbrev pub Stacked : {E : Type 0} → List Step → List (Frame E) → Type 0
Stacked steps [] = Unit {0}
Stacked steps (f ∷ up) = (slice_index_or steps (length up) no_step ≡ step f) × Stacked steps up

-- the way down through the frames
pub record Along {E : Type 0} (w : Way) (up : List (Frame E)) : Type 0 where
  pub deep : length up ≡ w.depth
  pub stacked : Stacked w.steps up
