-- One question that was asked, by what came of it.
use Rattle.std.proofs.Common.{◌≡◌, Bool, true, false, Ok, Err, refl}
use Rattle.plain.specs.declared.refusal.Refusal.{Refusal}
use Rattle.checks.specs.Verdicts.{ask}

pub granted : (answer : Bool) (reason : Refusal) (v : Unit {0}) → ask answer reason ≡ Ok v → answer ≡ true
granted true reason v e = refl
granted false reason v e = cc

pub denied : (answer : Bool) (reason other : Refusal) → ask answer reason ≡ Err other → (answer ≡ false) × (reason ≡ other)
denied true reason other e = cc
denied false reason other e = (refl, cc)
