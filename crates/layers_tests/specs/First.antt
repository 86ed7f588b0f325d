-- The recogniser of the first row: whether it is a collection, and whether there is one.
use Rattle.std.specs.Prelude.{ℕ, Bool, true, false, cond, ◌==◌, nat_lt}
use Rattle.rows.specs.declared.kind.Kind.{Kind}
use Rattle.rows.specs.declared.kind.Kind.TheVariants.{Heading, Item, RateOnly, ProvisionalSum, Note, Collection, Summary, Blank}
use Rattle.monoid.specs.Meaning.{Meaning}
use Rattle.monoid.specs.Small.{Small}
use Rattle.layers_tests.specs.declared.first.Opening.{Opening}
use Rattle.layers_tests.specs.declared.first.Opening.TheVariants as opening

abbrev pub opening_of : Kind → Opening
opening_of Heading = opening.Other
opening_of Item = opening.Other
opening_of RateOnly = opening.Other
opening_of ProvisionalSum = opening.Other
opening_of Note = opening.Other
opening_of Collection = opening.Collection
opening_of Summary = opening.Other
opening_of Blank = opening.Other

abbrev pub before : Opening → Opening → Opening
before opening.Nothing y = y
before opening.Collection y = opening.Collection
before opening.Other y = opening.Other

abbrev pub lights : Opening → ℕ → Bool
lights opening.Nothing j = false
lights opening.Collection j = nat_lt j 2
lights opening.Other j = j == 1

abbrev pub place_of : Opening → ℕ
place_of opening.Nothing = 0
place_of opening.Collection = 1
place_of opening.Other = 2

abbrev pub first_meaning : Meaning Opening
first_meaning = record { sound = λ x. true; unit = opening.Nothing; mul = before; image = opening_of; width = 2; lit = lights }

abbrev pub first_small : Small Opening
first_small = record { order = 3; index = place_of; element = λ i. cond (i == 0) opening.Nothing (cond (i == 1) opening.Collection opening.Other) }
