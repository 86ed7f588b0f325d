-- What each verdict says of a counter's data, in words.
use Rattle.std.specs.Prelude.{◌≡◌, ◌↔◌, ◌<◌, ◌≤◌, ◌⊎◌, slice_index}
use Rattle.rows.specs.declared.kind.Kind.{Kind}
use Rattle.rows.specs.Places.{place}
use Rattle.checks.specs.Verdicts.{Verdict, number_of}
use Rattle.counter.specs.declared.data.CounterData.{CounterData}

pub record ModulusFits (d : CounterData) : Type 0 where
  pub some : 1 ≤ d.modulus
  pub few : d.modulus ≤ 1000000

abbrev pub ModulusUnfit : CounterData → Type 0
ModulusUnfit d = (d.modulus < 1) ⊎ (1000000 < d.modulus)

-- every weight and the residue are below the modulus
pub record AllBelow (d : CounterData) : Type 0 where
  pub weights : (k : Kind) → slice_index d.weights (place k) < d.modulus
  pub residue : d.residue < d.modulus

-- some weight is not, or the residue is not
pub data TooLarge (d : CounterData) : Type 0 where
  weight : (k : Kind) → d.modulus ≤ slice_index d.weights (place k) → TooLarge d
  residue : d.modulus ≤ d.residue → TooLarge d

pub record Says (d : CounterData) (v : Verdict) : Type 0 where
  pub accepted : (number_of v ≡ 0) ↔ (ModulusFits d × AllBelow d)
  pub size_out_of_limits : (number_of v ≡ 21) ↔ ModulusUnfit d
  pub entry_too_large : (number_of v ≡ 22) ↔ (ModulusFits d × TooLarge d)
