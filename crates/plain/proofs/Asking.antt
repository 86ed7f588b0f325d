-- Questions that were all answered yes.
use Rattle.std.proofs.Common.{◌≡◌, ℕ, zero, suc, ◌<◌, Bool, true, false, List, [], ◌∷◌, map, length, take, get_or, Some, None, Option, refl, ap, ◌∙◌, arith}
use Rattle.plain.specs.declared.refusal.Refusal.{Refusal}
use Rattle.plain.specs.Refusals.{Answer, or_else, first_no}

-- the first was, and the later ones were
pub passed : (answer : Bool) (reason : Refusal) (later : Option Refusal) → or_else answer reason later ≡ None → (answer ≡ true) × (later ≡ None)
passed true reason later e = (refl, e)
passed false reason later e = let z : ◌≡◌ {A = ℕ} 0 1 = cc in absurd (omega arith)

-- a question that is answered yes leaves it to the later ones, and one that is answered no decides
pub leaves : (answer : Bool) (reason : Refusal) (later : Option Refusal) → answer ≡ true → or_else answer reason later ≡ later
leaves answer reason later e = ap (λ a. or_else a reason later) e

pub decides : (answer : Bool) (reason : Refusal) (later : Option Refusal) → answer ≡ false → or_else answer reason later ≡ Some reason
decides answer reason later e = ap (λ a. or_else a reason later) e

module _ {Q : Type 0} (answer : Q → Answer) where
  -- the first questions and one more were answered yes
  pub one_more : (qs : List Q) (i : ℕ) (d : Q) → i < length qs → first_no (map answer (take i qs)) ≡ None → (answer (get_or qs i d)).0 ≡ true → first_no (map answer (take (suc i) qs)) ≡ None
  one_more [] i d h none granted = absurd (omega arith)
  one_more (q ∷ qs) zero d h none granted = leaves (answer q).0 (answer q).1 None granted
  one_more (q ∷ qs) (suc i) d h none granted =
      let rest = passed (answer q).0 (answer q).1 (first_no (map answer (take i qs))) none in
      leaves (answer q).0 (answer q).1 (first_no (map answer (take (suc i) qs))) rest.0 ∙ one_more qs i d (omega arith) rest.1 granted

  -- the one after them is answered no, and decides
  pub first_refused : (qs : List Q) (i : ℕ) (d : Q) → i < length qs → first_no (map answer (take i qs)) ≡ None → (answer (get_or qs i d)).0 ≡ false → first_no (map answer qs) ≡ Some (answer (get_or qs i d)).1
  first_refused [] i d h none denied = absurd (omega arith)
  first_refused (q ∷ qs) zero d h none denied = decides (answer q).0 (answer q).1 (first_no (map answer qs)) denied
  first_refused (q ∷ qs) (suc i) d h none denied =
      let rest = passed (answer q).0 (answer q).1 (first_no (map answer (take i qs))) none in
      leaves (answer q).0 (answer q).1 (first_no (map answer qs)) rest.0 ∙ first_refused qs i d (omega arith) rest.1 denied
