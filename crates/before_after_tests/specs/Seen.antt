-- The recogniser of two elements that remembers whether a collection was seen.
use Rattle.std.specs.Prelude.{Bool, true, false, cond, not, ◌&&◌, ◌||◌, ◌==◌}
use Rattle.rows.specs.Places.{place}
use Rattle.monoid.specs.Meaning.{Meaning}
use Rattle.monoid.specs.Small.{Small}

abbrev pub same : Bool → Bool → Bool
same true b = b
same false b = not b

abbrev pub seen : Bool → Meaning Bool
seen wanted = record {
  sound = λ x. true;
  unit = false;
  mul = λ x y. x || y;
  image = λ k. (place k == 5);
  width = 1;
  lit = λ x j. (j == 0) && same x wanted;
}

abbrev pub by_truth : Small Bool
by_truth = record { order = 2; index = λ x. cond x 1 0; element = λ i. (i == 1) }
