-- The questions that a table's data are asked, and the data that a table is then made from.
use Rattle.std.specs.Prelude.{ℕ, Bool, not, ◌&&◌, ◌||◌, [], ◌∷◌, ◌==◌, nat_le, nat_lt, slice_index}
use Rattle.checks.specs.declared.verdict.Flaw.TheVariants.{SizeOutOfLimits, EntryTooLarge, UnitNotNeutral, NotAssociative}
use Rattle.checks.specs.Verdicts.{Verdict, first_no, taken}
use Rattle.checks.specs.Below.{all_below}
use Rattle.table.specs.declared.data.TableData.{TableData}
use Rattle.table.specs.Tables.{times, lit_in, trivial_data}

-- the size is from 1 to 8
abbrev pub size_fits : TableData → Bool
size_fits d = nat_le 1 d.size && nat_le d.size 8

-- the product of each two elements is below the size
abbrev pub product_fits : TableData → ℕ → ℕ → Bool
product_fits d x y = nat_lt (times d x y) d.size

abbrev pub row_fits : TableData → ℕ → Bool
row_fits d x = all_below d.size (product_fits d x)

abbrev pub products_fit : TableData → Bool
products_fit d = all_below d.size (row_fits d)

-- the image of each kind is below the size
abbrev pub image_fits : TableData → ℕ → Bool
image_fits d p = nat_lt (slice_index d.images p) d.size

abbrev pub images_fit : TableData → Bool
images_fit d = all_below 8 (image_fits d)

-- what is lit is below the size
abbrev pub member_fits : TableData → ℕ → Bool
member_fits d x = nat_lt x d.size || not (lit_in d x)

abbrev pub members_fit : TableData → Bool
members_fit d = all_below 8 (member_fits d)

abbrev pub entries_fit : TableData → Bool
entries_fit d = products_fit d && (images_fit d && members_fit d)

-- 0 is neutral on both sides
abbrev pub neutral_at : TableData → ℕ → Bool
neutral_at d x = times d 0 x == x && times d x 0 == x

abbrev pub neutral : TableData → Bool
neutral d = all_below d.size (neutral_at d)

-- (x·y)·z is x·(y·z), for all three
abbrev pub associates : TableData → ℕ → ℕ → ℕ → Bool
associates d x y z = times d (times d x y) z == times d x (times d y z)

abbrev pub associates_at : TableData → ℕ → ℕ → Bool
associates_at d x y = all_below d.size (associates d x y)

abbrev pub associates_from : TableData → ℕ → Bool
associates_from d x = all_below d.size (associates_at d x)

abbrev pub associative : TableData → Bool
associative d = all_below d.size (associates_from d)

abbrev pub verdict_of : TableData → Verdict
verdict_of d = first_no ((size_fits d, SizeOutOfLimits) ∷ ((entries_fit d, EntryTooLarge) ∷ ((neutral d, UnitNotNeutral) ∷ ((associative d, NotAssociative) ∷ []))))

-- the data that a table is made from: those given, or the trivial ones where they are declined
abbrev pub taken_data : TableData → TableData
taken_data d = taken verdict_of trivial_data d
