-- What stands in a table: products, images and lit elements; and the table of the unit alone.
use Rattle.std.specs.Prelude.{ℕ, Bool, false, replicate, slice_index, slice_index_or}
use Rattle.rows.specs.declared.kind.Kind.{Kind}
use Rattle.rows.specs.Places.{place}
use Rattle.table.specs.declared.data.TableData.{TableData}

-- the product of x and y
abbrev pub times : TableData → ℕ → ℕ → ℕ
times d x y = slice_index (slice_index_or d.products x (replicate 8 0)) y

abbrev pub image_in : TableData → Kind → ℕ
image_in d k = slice_index d.images (place k)

abbrev pub lit_in : TableData → ℕ → Bool
lit_in d x = slice_index_or d.lit x false

-- the table of the unit alone, which is never lit
abbrev pub trivial_data : TableData
trivial_data = record { size = 1; products = replicate 8 (replicate 8 0); images = replicate 8 0; lit = replicate 8 false }
