-- The place of each kind among the eight, by which tables of one entry for each kind are read.
use Rattle.std.specs.Prelude.{◌≡◌, ℕ, List, Some, length, slice_get}
use Rattle.rows.specs.declared.kind.Kind.{Kind}
use Rattle.rows.specs.declared.kind.Kind.TheVariants.{Heading, Item, RateOnly, ProvisionalSum, Note, Collection, Summary, Blank}

abbrev pub place : Kind → ℕ
place Heading = 0
place Item = 1
place RateOnly = 2
place ProvisionalSum = 3
place Note = 4
place Collection = 5
place Summary = 6
place Blank = 7

-- a list of the eight kinds: each stands at its place, and nothing else is in it
pub record EachAtItsPlace (kinds : List Kind) : Type 0 where
  pub eight : length kinds ≡ 8
  pub each : (k : Kind) → slice_get kinds (place k) ≡ Some k
