-- How a row is joined with its sides: which three rows come to stand anew where one side is too high.
use Rattle.std.specs.Prelude.{◌≡◌, ℕ, ◌+◌, ◌^◌, ◌<◌, ◌≤◌, max, List, length, Some, Option}
use Rattle.monoid.specs.Meaning.{Meaning}
use Rattle.cells.specs.declared.cell.Cell.{Cell}
use Rattle.cells.specs.declared.links.Side.{Side}
use Rattle.cells.specs.declared.links.Side.TheVariants.{Left, Right}
use Rattle.cells.specs.declared.mend.Row.{Row}
use Rattle.cells.specs.Trees.{Tree, link, size, height, Even, count, here, Stands}
use Rattle.cells.specs.Truth.{True}
use Rattle.cells.specs.Mends.{Room}
use Rattle.climb.specs.declared.plan.Plan.{Plan}
use Rattle.climb.specs.declared.plan.Plan.TheVariants.{Straight, Restructured}
use Rattle.climb.specs.declared.plan.Triple.{Triple}
use Rattle.climb.specs.Joins.{Shaped, Written}
use Rattle.climb.specs.Triples.{Parts, triple_of, shape}

-- how often a place stands among them, and that their measures fit a cell
abbrev pub among : {E : Type 0} → ℕ → Parts E → ℕ
among q t = count q t.first + here q t.low.place + count q t.second + here q t.middle.place + (count q t.third + here q t.high.place + count q t.fourth)

abbrev pub Roomy : {E : Type 0} → Parts E → Type 0
Roomy t = (max (max (height t.first) (height t.second) + 1) (max (height t.third) (height t.fourth) + 1) + 1 < 2 ^ 8) × (size t.first + size t.second + size t.third + size t.fourth + 3 < 2 ^ 16)

-- the four trees stand in the cells, and the three rows have cells there
pub record Standing {E : Type 0} (x : List (Cell E)) (t : Parts E) : Type 0 where
  pub trees : Stands x t.first × Stands x t.second × Stands x t.third × Stands x t.fourth
  pub rows : (t.low.place < length x) × (t.middle.place < length x) × (t.high.place < length x)

abbrev pub AllTrue : {E : Type 0} → Meaning E → Parts E → Type 0
AllTrue m t = True m t.first × True m t.second × True m t.third × True m t.fourth

-- the parts are those of l, the row and r, and in their new shape they are the two joined around it
pub record Picked {E : Type 0} (x : List (Cell E)) (l : Tree E) (row : Row) (r : Tree E) (t : Parts E) : Type 0 where
  pub standing : row.place < length x → Standing x t
  pub shaped : (p q s : E) → Shaped l row r (shape t p q s)
  pub truth : (m : Meaning E) → True m l → True m r → AllTrue m t
  pub places : (q : ℕ) → among q t ≡ count q l + here q row.place + count q r
  pub roomy : Room l r → Roomy t

abbrev pub Picks : {E : Type 0} → List (Cell E) → Tree E → Row → Tree E → Option Plan → Type 0
Picks {E} x l row r out = (t : Parts E) × (out ≡ Some (Restructured (triple_of t))) × Picked x l row r t

abbrev pub PicksLeft : {E : Type 0} → List (Cell E) → Row → Option ℕ → Option ℕ → Option Plan → Type 0
PicksLeft {E} x row a b out = (l r : Tree E) → Stands x l → Stands x r → a ≡ link l → b ≡ link r → height r + 1 < height l → Picks x l row r out

abbrev pub PicksRight : {E : Type 0} → List (Cell E) → Row → Option ℕ → Option ℕ → Option Plan → Type 0
PicksRight {E} x row a b out = (l r : Tree E) → Stands x l → Stands x r → a ≡ link l → b ≡ link r → height l + 1 < height r → Picks x l row r out

-- by the side that is too high
abbrev pub PicksAt : {E : Type 0} → Side → List (Cell E) → Row → Option ℕ → Option ℕ → Option Plan → Type 0
PicksAt Left = PicksLeft
PicksAt Right = PicksRight

-- straight where the sides are even, else by three rows
abbrev pub Planned : {E : Type 0} → List (Cell E) → Tree E → Row → Tree E → Plan → Type 0
Planned x l row r Straight = Even l r
Planned {E} x l row r (Restructured triple) = (t : Parts E) × (triple ≡ triple_of t) × Picked x l row r t

abbrev pub Plans : {E : Type 0} → List (Cell E) → Row → Option ℕ → Option ℕ → Option Plan → Type 0
Plans {E} x row a b out = (l r : Tree E) → Stands x l → Stands x r → a ≡ link l → b ≡ link r → (how : Plan) × (out ≡ Some how) × Planned x l row r how

-- the three rows written in their new shape
pub record Rebuilt {E : Type 0} (m : Meaning E) (due : Type 0) (x y : List (Cell E)) (t : Parts E) : Type 0 where
  pub low_stored : E
  pub middle_stored : E
  pub high_stored : E
  pub truth : due → AllTrue m t → True m (shape t low_stored middle_stored high_stored)
  pub written : Written x y (shape t low_stored middle_stored high_stored)

abbrev pub Restructures : {E : Type 0} → Meaning E → Type 0 → List (Cell E) → List (Cell E) → Triple → Option ℕ → Type 0
Restructures {E} m due x y triple out = (t : Parts E) → triple ≡ triple_of t → Standing x t → ((q : ℕ) → among q t ≤ 1) → Roomy t → (out ≡ Some t.middle.place) × Rebuilt m due x y t
