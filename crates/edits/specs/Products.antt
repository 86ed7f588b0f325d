-- The products that a tree stores, row by row, and the rows that the stretch of each row holds.
use Rattle.std.specs.Prelude.{◌≡◌, ℕ, ◌+◌, ◌-◌, ◌<◌, ◌⊎◌, List, [], ◌∷◌, ◌++◌}
use Rattle.cells.specs.Trees.{Tree, leaf, node, size}

abbrev pub products : {E : Type 0} → Tree E → List E
products leaf = []
products (node l i k p r) = products l ++ (p ∷ products r)

-- the stretch of the row with j rows before it holds the row with n rows before it: both stand on the left of the root,
-- or the first is the root, or both stand on its right
abbrev pub Holds : {E : Type 0} → Tree E → ℕ → ℕ → Type 0
Holds leaf j n = ⊥
Holds (node l i k p r) j n =
    ((j < size l) × (n < size l) × Holds l j n)
    ⊎ (((j ≡ size l) × (n < size l + size r + 1))
    ⊎ ((size l < j) × (size l < n) × Holds r (j - size l - 1) (n - size l - 1)))
