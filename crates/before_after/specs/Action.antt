-- How an element of a small recogniser takes indexes, and sets of pairs by one of their members, to others.
use Rattle.std.specs.Prelude.{ℕ}
use Rattle.pairs.specs.declared.member.Member.{Member}
use Rattle.pairs.specs.declared.member.Member.TheVariants.{First, Second}
use Rattle.pairs.specs.declared.pair_set.PairSet.{PairSet}
use Rattle.pairs.specs.Moved.{moved}
use Rattle.monoid.specs.Meaning.{Meaning}
use Rattle.monoid.specs.Small.{Small}

-- first members are multiplied from the left, second ones from the right
abbrev pub product_on : {E : Type 0} → Member → Meaning E → E → E → E
product_on First m a x = m.mul a x
product_on Second m a x = m.mul x a

abbrev pub action : {E : Type 0} → Member → Meaning E → Small E → E → ℕ → ℕ
action member m n a x = n.index (product_on member m a (n.element x))

abbrev pub acted : {E : Type 0} → Member → Meaning E → Small E → E → PairSet → PairSet
acted member m n a q = moved member n.order (action member m n a) q
