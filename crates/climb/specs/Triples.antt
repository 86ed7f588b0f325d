-- Three rows and the trees around them: as they are read, and in their new shape.
use Rattle.std.specs.Prelude.{◌≡◌, ℕ, List, Some, Option}
use Rattle.rows.specs.declared.kind.Kind.{Kind}
use Rattle.cells.specs.declared.cell.Cell.{Cell}
use Rattle.cells.specs.declared.links.Side.{Side}
use Rattle.cells.specs.declared.links.Side.TheVariants.{Left, Right}
use Rattle.cells.specs.declared.mend.Row.{Row}
use Rattle.cells.specs.Trees.{Tree, node, link, height, Stands}
use Rattle.cells.specs.Mends.{row_over}
use Rattle.climb.specs.declared.plan.Branch.{Branch}
use Rattle.climb.specs.declared.plan.Node.{Node}
use Rattle.climb.specs.declared.plan.Triple.{Triple}

-- the height of the tree, and the row, that a link leads to
abbrev pub HeightAt : {E : Type 0} → List (Cell E) → Option ℕ → Option ℕ → Type 0
HeightAt {E} x at out = (t : Tree E) → Stands x t → at ≡ link t → out ≡ Some (height t)

abbrev pub opened : {E : Type 0} → Tree E → ℕ → Kind → Tree E → Node
opened l i k r = record { row = record { place = i; kind = k }; left = record { link = link l; height = height l }; right = record { link = link r; height = height r } }

abbrev pub Opens : {E : Type 0} → List (Cell E) → Option ℕ → Option Node → Type 0
Opens {E} x at out = (l : Tree E) (i : ℕ) (k : Kind) (p : E) (r : Tree E) → Stands x (node l i k p r) → at ≡ Some i → out ≡ Some (opened l i k r)

-- a child of a row that is too high, and the root of the child's higher side: the row on the right of the child, or on
-- its left, and the higher side outside or inside
abbrev pub left_outer : Node → Node → Row → Option ℕ → Triple
left_outer child deep row right = record { first = deep.left.link; low = deep.row; second = deep.right.link; middle = child.row; third = child.right.link; high = row; fourth = right }

abbrev pub left_inner : Node → Node → Row → Option ℕ → Triple
left_inner child deep row right = record { first = child.left.link; low = child.row; second = deep.left.link; middle = deep.row; third = deep.right.link; high = row; fourth = right }

abbrev pub right_inner : Node → Node → Row → Option ℕ → Triple
right_inner child deep row left = record { first = left; low = row; second = deep.left.link; middle = deep.row; third = deep.right.link; high = child.row; fourth = child.right.link }

abbrev pub right_outer : Node → Node → Row → Option ℕ → Triple
right_outer child deep row left = record { first = left; low = row; second = child.left.link; middle = child.row; third = deep.left.link; high = deep.row; fourth = deep.right.link }

-- the same by side: which side of a row, and the row on which side of the child
abbrev pub branch : Node → Side → Branch
branch n Left = n.left
branch n Right = n.right

abbrev pub outer : Side → Node → Node → Row → Option ℕ → Triple
outer Left = left_outer
outer Right = right_outer

abbrev pub inner : Side → Node → Node → Row → Option ℕ → Triple
inner Left = left_inner
inner Right = right_inner

-- three rows and the four trees around them, in row order
pub record Parts (E : Type 0) : Type 0 where
  pub first : Tree E
  pub low : Row
  pub second : Tree E
  pub middle : Row
  pub third : Tree E
  pub high : Row
  pub fourth : Tree E

abbrev pub triple_of : {E : Type 0} → Parts E → Triple
triple_of t = record { first = link t.first; low = t.low; second = link t.second; middle = t.middle; third = link t.third; high = t.high; fourth = link t.fourth }

-- the middle row over the other two, whatever they store
abbrev pub shape : {E : Type 0} → Parts E → E → E → E → Tree E
shape t p q s = row_over (row_over t.first t.low p t.second) t.middle q (row_over t.third t.high s t.fourth)
