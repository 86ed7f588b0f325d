-- What each verdict says of a table's data, in words.
use Rattle.std.specs.Prelude.{◌≡◌, ◌≢◌, ◌↔◌, ℕ, ◌<◌, ◌≤◌, true, ◌⊎◌}
use Rattle.rows.specs.declared.kind.Kind.{Kind}
use Rattle.checks.specs.Verdicts.{Verdict, number_of}
use Rattle.table.specs.declared.data.TableData.{TableData}
use Rattle.table.specs.Tables.{times, image_in, lit_in}

pub record SizeFits (d : TableData) : Type 0 where
  pub some : 1 ≤ d.size
  pub few : d.size ≤ 8

abbrev pub SizeUnfit : TableData → Type 0
SizeUnfit d = (d.size < 1) ⊎ (8 < d.size)

-- every product of two elements, every image and all that is lit is an element
pub record AllElements (d : TableData) : Type 0 where
  pub product : (x y : ℕ) → x < d.size → y < d.size → times d x y < d.size
  pub image : (k : Kind) → image_in d k < d.size
  pub member : (x : ℕ) → x < 8 → lit_in d x ≡ true → x < d.size

-- some product, some image or something lit is none
pub data TooLarge (d : TableData) : Type 0 where
  product : (x y : ℕ) → x < d.size → y < d.size → d.size ≤ times d x y → TooLarge d
  image : (k : Kind) → d.size ≤ image_in d k → TooLarge d
  member : (x : ℕ) → x < 8 → lit_in d x ≡ true → d.size ≤ x → TooLarge d

-- 0 is neutral on both sides of every element
pub record Neutral (d : TableData) : Type 0 where
  pub on_left : (x : ℕ) → x < d.size → times d 0 x ≡ x
  pub on_right : (x : ℕ) → x < d.size → times d x 0 ≡ x

-- some element is changed by 0 on one side of it
pub data Changed (d : TableData) : Type 0 where
  on_left : (x : ℕ) → x < d.size → times d 0 x ≢ x → Changed d
  on_right : (x : ℕ) → x < d.size → times d x 0 ≢ x → Changed d

-- (x·y)·z is x·(y·z) for all three elements
abbrev pub Associative : TableData → Type 0
Associative d = (x y z : ℕ) → x < d.size → y < d.size → z < d.size → times d (times d x y) z ≡ times d x (times d y z)

-- for some three it is not
pub record Unequal (d : TableData) : Type 0 where
  pub x : ℕ
  pub y : ℕ
  pub z : ℕ
  pub x_below : x < d.size
  pub y_below : y < d.size
  pub z_below : z < d.size
  pub differ : times d (times d x y) z ≢ times d x (times d y z)

pub record Says (d : TableData) (v : Verdict) : Type 0 where
  pub accepted : (number_of v ≡ 0) ↔ (SizeFits d × (AllElements d × (Neutral d × Associative d)))
  pub size_out_of_limits : (number_of v ≡ 21) ↔ SizeUnfit d
  pub entry_too_large : (number_of v ≡ 22) ↔ (SizeFits d × TooLarge d)
  pub unit_not_neutral : (number_of v ≡ 23) ↔ (SizeFits d × (AllElements d × Changed d))
  pub not_associative : (number_of v ≡ 24) ↔ (SizeFits d × (AllElements d × (Neutral d × Unequal d)))
