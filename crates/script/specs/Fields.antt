-- The fields of a line, parted by commas, and what a field says where it is to be a number or a kind letter.
use Rattle.std.specs.Prelude.{ℕ, ◌-◌, List, [], ◌∷◌, None, Err, Option, Result, slice_index_or}
use Rattle.std.specs.Option.{ok_or}
use Rattle.rows.specs.Letters.{kind_of}
use Rattle.rows.specs.declared.kind.Kind.{Kind}
use Rattle.script.specs.declared.fault.Fault.{Fault}
use Rattle.script.specs.declared.fault.Cause.TheVariants.{BadNumber, BadKind}
use Rattle.script.specs.declared.field.Field.{Field}
use Rattle.script.specs.declared.field.Field.TheVariants as field
use Rattle.script.specs.declared.field.Shape.{Shape}
use Rattle.script.specs.declared.field.Shape.TheVariants as shape
use Rattle.script.specs.Parts.{Bytes, parted}
use Rattle.script.specs.Numbers.{number_of}
use Rattle.script.specs.Faults.{fault}

abbrev pub comma : ℕ
comma = 44

-- a line has one field more than commas
abbrev pub fields : Bytes → List Bytes
fields line = parted comma ([] ∷ []) line

-- the field at a place from 1
abbrev pub field_at : Bytes → ℕ → Bytes
field_at line place = slice_index_or (fields line) (place - 1) []

-- the kind of a field of one letter
abbrev pub kind_in : Bytes → Option Kind
kind_in [] = None
kind_in (b ∷ []) = kind_of b
kind_in (b ∷ (c ∷ cs)) = None

-- a number, or the fault of the field
abbrev pub number_at : ℕ → ℕ → Bytes → Result ℕ Fault
number_at line place bytes = ok_or (number_of bytes) (fault BadNumber line place)

abbrev pub kind_at : ℕ → ℕ → Bytes → Result Kind Fault
kind_at line place bytes = ok_or (kind_in bytes) (fault BadKind line place)

-- the part of the script that a field borrows, its place in the line, and what it is to be
abbrev pub part_of : Field → Bytes
part_of (field.Word part place) = part.now
part_of (field.Number part place) = part.now
part_of (field.Letter part place) = part.now

abbrev pub place_of : Field → ℕ
place_of (field.Word part place) = place
place_of (field.Number part place) = place
place_of (field.Letter part place) = place

abbrev pub shape_of : Field → Shape
shape_of (field.Word part place) = shape.Word
shape_of (field.Number part place) = shape.Number
shape_of (field.Letter part place) = shape.Letter

-- a field that is to be something else says no number, and no kind
abbrev pub number_said : ℕ → Field → Result ℕ Fault
number_said line (field.Word part place) = Err (fault BadNumber line place)
number_said line (field.Number part place) = number_at line place part.now
number_said line (field.Letter part place) = Err (fault BadNumber line place)

abbrev pub kind_said : ℕ → Field → Result Kind Fault
kind_said line (field.Word part place) = Err (fault BadKind line place)
kind_said line (field.Number part place) = Err (fault BadKind line place)
kind_said line (field.Letter part place) = kind_at line place part.now
