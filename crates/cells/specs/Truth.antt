-- When the stored products of a tree are true.
use Rattle.std.specs.Prelude.{◌≡◌, ◌∷◌, ◌++◌}
use Rattle.monoid.specs.Meaning.{Meaning}
use Rattle.monoid.specs.Words.{image_of}
use Rattle.cells.specs.Trees.{Tree, leaf, node, rows}

-- the product of a tree: what its root stores, or the unit where it has no row
abbrev pub product : {E : Type 0} → Meaning E → Tree E → E
product m leaf = m.unit
product m (node l i k p r) = p

-- every stored product is the image of the rows of its stretch
abbrev pub True : {E : Type 0} → Meaning E → Tree E → Type 0
True m leaf = Unit {0}
True m (node l i k p r) = (p ≡ image_of m (rows l ++ (k ∷ rows r))) × True m l × True m r
