-- How high a balanced tree of so many rows can be.
use Rattle.std.specs.Prelude.{◌≡◌, ℕ, zero, suc, ◌+◌, ◌<◌, ◌≤◌, cond, List, Some, Option, nat_le}
use Rattle.cells.specs.declared.cell.Cell.{Cell}
use Rattle.cells.specs.Trees.{Tree, link, size, height, Balanced, Stands}

-- the fewest rows of a balanced tree of a height
unfoldable pub fewest : ℕ → ℕ
fewest zero = 0
fewest (suc zero) = 1
fewest (suc (suc h)) = fewest (suc h) + fewest h + 1

-- the greatest height up to a limit for which n rows are enough
unfoldable pub highest_upto : ℕ → ℕ → ℕ
highest_upto zero n = 0
highest_upto (suc h) n = cond (nat_le (fewest (suc h)) n) (suc h) (highest_upto h n)

-- the greatest height for which n rows are enough: each height takes a row more, so it is at most n
unfoldable pub highest : ℕ → ℕ
highest n = highest_upto n n

-- h is the greatest height for which n rows are enough
pub record Greatest (n h : ℕ) : Type 0 where
  pub enough : fewest h ≤ n
  pub most : (k : ℕ) → fewest k ≤ n → k ≤ h

-- that height for some numbers of rows
pub record Worked : Type 0 where
  pub of_32 : highest 32 ≡ 6
  pub of_33 : highest 33 ≡ 7
  pub of_4096 : highest 4096 ≡ 16

-- a balanced tree is no higher than its rows are enough for, and up to 4,096 rows never comes near to 24
pub record Bounded {E : Type 0} (t : Tree E) (h : ℕ) : Type 0 where
  pub greatest : h ≡ highest (size t)
  pub low : Balanced t → height t ≤ h
  pub few : size t ≤ 4096 → h ≤ 16
  pub never : h < 24

-- the bound of the tree under a root
abbrev pub Bounds : {E : Type 0} → List (Cell E) → Option ℕ → Option ℕ → Type 0
Bounds {E} cells root out = (t : Tree E) → Stands cells t → root ≡ link t → (h : ℕ) × (out ≡ Some h) × Bounded t h
