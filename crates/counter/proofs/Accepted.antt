-- What holds of data that the check accepts.
use Rattle.std.proofs.Common.{◌≡◌, ◌≤◌, true, ◌&&◌, leb, Ok}
use Rattle.std.proofs.lemmas.Bool.{leb-true, and_parts}
use Rattle.checks.specs.declared.verdict.Flaw.TheVariants.{SizeOutOfLimits, EntryTooLarge}
use Rattle.checks.specs.Verdicts.{accepted, ask}
use Rattle.checks.proofs.Asking.{asked}
use Rattle.counter.specs.declared.data.CounterData.{CounterData}
use Rattle.counter.specs.Checks.{modulus_fits, weights_fit, residue_fits, verdict_of}

pub record Good (d : CounterData) : Type 0 where
  pub some : 1 ≤ d.modulus
  pub few : d.modulus ≤ 1000000
  pub below : weights_fit d ≡ true

pub good : (d : CounterData) → accepted (verdict_of d) ≡ true → Good d
good d e =
    let size = asked (modulus_fits d) SizeOutOfLimits (ask (weights_fit d && residue_fits d) EntryTooLarge) e in
    let limits = and_parts (leb 1 d.modulus) (leb d.modulus 1000000) size.0 in
    let fit = asked (weights_fit d && residue_fits d) EntryTooLarge (Ok tt) size.1 in
    record {
      some = leb-true 1 d.modulus limits.0;
      few = leb-true d.modulus 1000000 limits.1;
      below = (and_parts (weights_fit d) (residue_fits d) fit.0).0;
    }
