-- What is left of a recogniser that was asked for products.
use Rattle.std.specs.Prelude.{◌≡◌, ℕ, ◌+◌, ◌%◌, ◌^◌}
use Rattle.monoid.specs.Meaning.{Meaning}

-- so many products, modulo 2^64, between two tallies
abbrev pub exactly : ℕ → ℕ → ℕ → Type 0
exactly n before after = after ≡ (before + n) % 2 ^ 64

-- its tally has risen as counted, and nothing else of it has changed: it means the same, and is in order still
pub record AskedFor {S E : Type 0} (meaning : S → Meaning E) (orderly : S → Type 0) (tally : S → ℕ) (counted_by : ℕ → ℕ → Type 0) (before after : S) : Type 0 where
  pub same : meaning after ≡ meaning before
  pub order : orderly before → orderly after
  pub counted : counted_by (tally before) (tally after)
