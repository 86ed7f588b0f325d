-- Every row weighs one.
use Rattle.std.proofs.Common.{◌≡◌, ℕ, [], ◌∷◌, length, get_or, replicate, refl, arith}
use Rattle.rows.specs.declared.kind.Kind.{Kind}
use Rattle.rows.specs.declared.kind.Kind.TheVariants.{Heading, Item, RateOnly, ProvisionalSum, Note, Collection, Summary, Blank}
use Rattle.rows.specs.Places.{place}
use Rattle.monoid.specs.Words.{Word}
use Rattle.counter.specs.Languages.{weight_of}

one : (k : Kind) → ◌≡◌ {A = ℕ} (get_or (replicate 8 1) (place k) 0) 1
one Heading = refl
one Item = refl
one RateOnly = refl
one ProvisionalSum = refl
one Note = refl
one Collection = refl
one Summary = refl
one Blank = refl

pub weight_is_length : (w : Word) → weight_of (replicate 8 1) w ≡ length w
weight_is_length [] = refl
weight_is_length (k ∷ w) = let rest = weight_is_length w in let here = one k in omega arith
