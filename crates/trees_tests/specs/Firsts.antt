-- The recogniser of the first row: an element is that row's place counted from 1, or 0 for no row.
use Rattle.std.specs.Prelude.{ℕ, ◌+◌, true, cond, ◌&&◌, ◌==◌}
use Rattle.rows.specs.Places.{place}
use Rattle.monoid.specs.Meaning.{Meaning}

abbrev pub first_meaning : Meaning ℕ
first_meaning = record {
  sound = λ x. true;
  unit = 0;
  mul = λ x y. cond (x == 0) y x;
  image = λ k. place k + 1;
  width = 1;
  lit = λ x j. (j == 0) && (x == 1);
}
