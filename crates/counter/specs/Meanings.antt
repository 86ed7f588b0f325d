-- What a counter means: the residues under addition modulo the modulus.
use Rattle.std.specs.Prelude.{ℕ, zero, suc, ◌+◌, ◌%◌, Bool, false, cond, List, replicate, Some, None, Option, ◌==◌, nat_lt, slice_index}
use Rattle.rows.specs.Places.{place}
use Rattle.monoid.specs.Meaning.{Meaning}
use Rattle.checks.specs.Verdicts.{accepted}
use Rattle.counter.specs.declared.data.CounterData.{CounterData}
use Rattle.counter.specs.declared.counter.Counter.{Counter}
use Rattle.counter.specs.Checks.{verdict_of}

-- lamp 0 is lit at one residue, or at none; there is no other lamp
abbrev pub lit_at : Option ℕ → ℕ → ℕ → Bool
lit_at None x j = false
lit_at (Some y) x zero = x == y
lit_at (Some y) x (suc j) = false

abbrev pub counting : ℕ → List ℕ → Option ℕ → Meaning ℕ
counting modulus weights residue = record {
  sound = λ x. nat_lt x modulus;
  unit = 0;
  mul = λ x y. (x + y) % modulus;
  image = λ k. slice_index weights (place k);
  width = 1;
  lit = λ x j. lit_at residue x j;
}

-- the counter that is never lit
abbrev pub trivial : Meaning ℕ
trivial = counting 1 (replicate 8 0) None

-- what is made from data: the counter that they say, or the trivial one where they are declined
abbrev pub counter_from : CounterData → Meaning ℕ
counter_from d = cond (accepted (verdict_of d)) (counting d.modulus d.weights (Some d.residue)) trivial

abbrev pub counter_meaning : Counter → Meaning ℕ
counter_meaning c = counting c.modulus c.weights c.residue
