-- Sets of pairs whose first or second members are replaced.
use Rattle.std.specs.Prelude.{ℕ, Bool, ◌&&◌, ◌==◌}
use Rattle.pairs.specs.declared.member.Member.{Member}
use Rattle.pairs.specs.declared.member.Member.TheVariants.{First, Second}
use Rattle.pairs.specs.declared.pair_set.PairSet.{PairSet}
use Rattle.pairs.specs.Below.{some_below}
use Rattle.pairs.specs.Pairs.{holds, gathered}

-- whether the pair with x as that member, and y as the other one, is in the set
abbrev pub holds_by : Member → PairSet → ℕ → ℕ → Bool
holds_by First s x y = holds s x y
holds_by Second s x y = holds s y x

-- the set of the pairs that pass a test of that member and the other one
abbrev pub gathered_by : Member → (ℕ → ℕ → Bool) → PairSet
gathered_by First p = gathered p
gathered_by Second p = gathered (λ i j. p j i)

-- the pairs that have from as that member, with to in its place
abbrev pub line_moved : Member → ℕ → ℕ → PairSet → PairSet
line_moved member from to s = gathered_by member (λ x y. (x == to) && holds_by member s from y)

-- the pairs that have a number x below n as that member, with f x in its place
abbrev pub moved : Member → ℕ → (ℕ → ℕ) → PairSet → PairSet
moved member n f s = gathered_by member (λ z y. some_below n (λ x. (z == f x) && holds_by member s x y))
