-- Before-and-after: the monoid of what two small recognisers make of a word and of its parts around marked rows.
use Rattle.std.specs.Prelude.{ℕ, Bool, false, cond, ◌&&◌, List, ◌==◌, slice_index_or}
use Rattle.rows.specs.declared.kind.Kind.{Kind}
use Rattle.rows.specs.Places.{place}
use Rattle.monoid.specs.Meaning.{Meaning}
use Rattle.monoid.specs.Small.{Small}
use Rattle.pairs.specs.declared.member.Member.TheVariants.{First, Second}
use Rattle.pairs.specs.declared.pair_set.PairSet.{PairSet}
use Rattle.pairs.specs.Below.{some_below}
use Rattle.pairs.specs.Pairs.{holds, none, only, joined, within}
use Rattle.before_after.specs.declared.split.Split.{Split}
use Rattle.before_after.specs.Action.{acted}

-- whether a kind is marked
abbrev pub marked : List Bool → Kind → Bool
marked marks k = slice_index_or marks (place k) false

-- whether (i, j) is in the set and j is lit, and whether there is such a j
module _ {F : Type 0} (m' : Meaning F) (n' : Small F) (q : PairSet) (i : ℕ) where
  abbrev pub lit_at : ℕ → Bool
  lit_at j = m'.lit (n'.element j) 0 && holds q i j

  abbrev pub row_lit : Bool
  row_lit = some_below n'.order lit_at

module _ {E F : Type 0} (m : Meaning E) (n : Small E) (m' : Meaning F) (n' : Small F) where
  -- whether i is lit and in a pair with a lit one, and whether there is such an i: a pair with both sides lit
  abbrev pub lit_row : PairSet → ℕ → Bool
  lit_row q i = m.lit (n.element i) 0 && row_lit m' n' q i

  abbrev pub some_lit : PairSet → Bool
  some_lit q = some_below n.order (lit_row q)

  -- the pair of the units, where a kind is marked
  abbrev pub marked_pairs : List Bool → Kind → PairSet
  marked_pairs marks k = cond (marked marks k) (only (n.index m.unit) (n'.index m'.unit)) none

  abbrev pub before_and_after : List Bool → Meaning (Split E F)
  before_and_after marks = record {
    sound = λ x. (m.sound x.before && m'.sound x.after) && within n.order n'.order x.pairs;
    unit = record { before = m.unit; pairs = none; after = m'.unit };
    mul = λ x y. record {
      before = m.mul x.before y.before;
      pairs = joined (acted First m n x.before y.pairs) (acted Second m' n' y.after x.pairs);
      after = m'.mul x.after y.after;
    };
    image = λ k. record { before = m.image k; pairs = marked_pairs marks k; after = m'.image k };
    width = 1;
    lit = λ x j. (j == 0) && some_lit x.pairs;
  }
