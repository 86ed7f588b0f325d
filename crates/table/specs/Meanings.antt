-- What a table means: the elements below the size under the products that stand in it.
use Rattle.std.specs.Prelude.{ℕ, ◌&&◌, ◌==◌, nat_lt}
use Rattle.monoid.specs.Meaning.{Meaning}
use Rattle.monoid.specs.Small.{Small}
use Rattle.table.specs.declared.data.TableData.{TableData}
use Rattle.table.specs.declared.table.Table.{Table}
use Rattle.table.specs.Tables.{times, image_in, lit_in}
use Rattle.table.specs.Checks.{taken_data}

-- there is one lamp, lamp 0
abbrev pub table_of : TableData → Meaning ℕ
table_of d = record {
  sound = λ x. nat_lt x d.size;
  unit = 0;
  mul = times d;
  image = image_in d;
  width = 1;
  lit = λ x j. (j == 0) && lit_in d x;
}

-- each element is its own index
abbrev pub small_of : TableData → Small ℕ
small_of d = record { order = d.size; index = λ x. x; element = λ i. i }

-- what is made from data
abbrev pub table_from : TableData → Meaning ℕ
table_from d = table_of (taken_data d)

abbrev pub small_from : TableData → Small ℕ
small_from d = small_of (taken_data d)

abbrev pub table_meaning : Table → Meaning ℕ
table_meaning t = table_of t.«data»

abbrev pub table_small : Table → Small ℕ
table_small t = small_of t.«data»
