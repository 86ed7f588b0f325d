-- The two ends of a word: what stands near to an end, what lies beside what, and so many rows from an end.
use Rattle.std.specs.Prelude.{ℕ, ◌-◌, ◌++◌, length, take, drop}
use Rattle.monoid.specs.Words.{Word}
use Rattle.ranges.specs.declared.end.End.{End}
use Rattle.ranges.specs.declared.end.End.TheVariants.{Front, Back}

-- of the left and the right, the one that is nearer to an end, and the other
abbrev pub near : {X : Type 0} → End → X → X → X
near Front left right = left
near Back left right = right

abbrev pub far : {X : Type 0} → End → X → X → X
far Front left right = right
far Back left right = left

-- a word, and another one beside it on the side away from the end
abbrev pub beside : End → Word → Word → Word
beside Front u v = u ++ v
beside Back u v = v ++ u

-- the n rows of a word at an end
abbrev pub ending : End → ℕ → Word → Word
ending Front n w = take n w
ending Back n w = drop (length w - n) w
