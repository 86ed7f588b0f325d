-- The questions that a counter's data are asked.
use Rattle.std.specs.Prelude.{Bool, ◌&&◌, ltb, [], ◌∷◌, nat_le, nat_lt, slice_index}
use Rattle.checks.specs.declared.verdict.Flaw.TheVariants.{SizeOutOfLimits, EntryTooLarge}
use Rattle.checks.specs.Verdicts.{Verdict, first_no}
use Rattle.checks.specs.Below.{all_below}
use Rattle.counter.specs.declared.data.CounterData.{CounterData}

-- the modulus is from 1 to 1,000,000
abbrev pub modulus_fits : CounterData → Bool
modulus_fits d = nat_le 1 d.modulus && nat_le d.modulus 1000000

-- the weight of each kind is below the modulus
abbrev pub weights_fit : CounterData → Bool
weights_fit d = all_below 8 (λ p. ltb (slice_index d.weights p) d.modulus)

abbrev pub residue_fits : CounterData → Bool
residue_fits d = nat_lt d.residue d.modulus

abbrev pub verdict_of : CounterData → Verdict
verdict_of d = first_no ((modulus_fits d, SizeOutOfLimits) ∷ ((weights_fit d && residue_fits d, EntryTooLarge) ∷ []))
