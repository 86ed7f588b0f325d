-- The recogniser of the first and the last row: an element has their kinds, if there are any.
use Rattle.std.specs.Prelude.{Bool, true, false, ◌&&◌, ◌==◌, Some, None, Option}
use Rattle.rows.specs.declared.kind.Kind.{Kind}
use Rattle.rows.specs.Places.{place}
use Rattle.monoid.specs.Meaning.{Meaning}
use Rattle.edits_tests.specs.declared.ends.Pair.{Pair}

-- the first kind, or the second where there is none
abbrev pub or : Option Kind → Option Kind → Option Kind
or None y = y
or (Some x) y = Some x

abbrev pub is_heading : Option Kind → Bool
is_heading None = false
is_heading (Some k) = place k == 0

abbrev pub ends_meaning : Meaning Pair
ends_meaning = record {
  sound = λ x. true;
  unit = record { first = None; last = None };
  mul = λ x y. record { first = or x.first y.first; last = or y.last x.last };
  image = λ k. record { first = Some k; last = Some k };
  width = 1;
  lit = λ x j. (j == 0) && is_heading x.first;
}
