-- The products that are kept, by the indexes of the two factors.
use Rattle.std.specs.Prelude.{ℕ, None, Option, [], slice_index_or}
use Rattle.memo.specs.declared.products.Products.{Products}

-- the index of the product of i and j, if it is kept
abbrev pub found : Products → ℕ → ℕ → Option ℕ
found p i j = slice_index_or (slice_index_or p.known i []) j None
