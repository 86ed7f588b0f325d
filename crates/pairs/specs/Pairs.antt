-- Sets of pairs of indexes below eight, by their members.
use Rattle.std.specs.Prelude.{◌≡◌, ℕ, ◌+◌, ◌*◌, ◌/◌, ◌%◌, Bool, false, ◌&&◌, ◌||◌, ◌==◌, nat_lt}
use Rattle.pairs.specs.declared.pair_set.PairSet.{PairSet}
use Rattle.pairs.specs.Bits.{bit, packed}

-- whether the pair (i, j) is in the set
unfoldable pub holds : PairSet → ℕ → ℕ → Bool
holds s i j = (nat_lt i 8 && nat_lt j 8) && bit s.bits (8 * i + j)

-- the set of the pairs of indexes below eight that pass a test
unfoldable pub gathered : (ℕ → ℕ → Bool) → PairSet
gathered p = record { bits = packed 64 (λ k. p (k / 8) (k % 8)) }

abbrev pub none : PairSet
none = gathered (λ i j. false)

-- the pair (i, j) alone
abbrev pub only : ℕ → ℕ → PairSet
only i j = gathered (λ x y. (x == i) && y == j)

abbrev pub joined : PairSet → PairSet → PairSet
joined s t = gathered (λ i j. holds s i j || holds t i j)

abbrev pub SameMembers : PairSet → PairSet → Type 0
SameMembers s t = (i j : ℕ) → holds s i j ≡ holds t i j

-- whether a set has only pairs of an index below n and one below k
abbrev pub within : ℕ → ℕ → PairSet → Bool
within n k s = s.bits == (gathered (λ i j. (nat_lt i n && nat_lt j k) && holds s i j)).bits
