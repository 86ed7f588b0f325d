-- The places of the kinds are the numbers below eight.
use Rattle.std.proofs.Common.{◌≡◌, ℕ, zero, suc, ◌<◌, lit<, refl, arith}
use Rattle.rows.specs.declared.kind.Kind.{Kind}
use Rattle.rows.specs.declared.kind.Kind.TheVariants.{Heading, Item, RateOnly, ProvisionalSum, Note, Collection, Summary, Blank}
use Rattle.rows.specs.Places.{place}

pub place_below : (k : Kind) → place k < 8
place_below Heading = lit< tt
place_below Item = lit< tt
place_below RateOnly = lit< tt
place_below ProvisionalSum = lit< tt
place_below Note = lit< tt
place_below Collection = lit< tt
place_below Summary = lit< tt
place_below Blank = lit< tt

-- at each place stands a kind
pub kind_there : (p : ℕ) → p < 8 → (k : Kind) × (place k ≡ p)
kind_there zero h = (Heading, refl)
kind_there (suc zero) h = (Item, refl)
kind_there (suc (suc zero)) h = (RateOnly, refl)
kind_there (suc (suc (suc zero))) h = (ProvisionalSum, refl)
kind_there (suc (suc (suc (suc zero)))) h = (Note, refl)
kind_there (suc (suc (suc (suc (suc zero))))) h = (Collection, refl)
kind_there (suc (suc (suc (suc (suc (suc zero)))))) h = (Summary, refl)
kind_there (suc (suc (suc (suc (suc (suc (suc zero))))))) h = (Blank, refl)
kind_there (suc (suc (suc (suc (suc (suc (suc (suc p)))))))) h = absurd (omega arith)
