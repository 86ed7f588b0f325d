-- Where the data are accepted, every question was answered yes.
use Rattle.std.proofs.Common.{◌≡◌, Bool, true, false, sym, refl, ap, ◌∙◌}
use Rattle.std.proofs.lemmas.Bool.{false≢true}
use Rattle.checks.specs.declared.verdict.Flaw.{Flaw}
use Rattle.checks.specs.Verdicts.{Verdict, accepted, or_else}

-- a question, and the questions after it
pub asked : (answer : Bool) (flaw : Flaw) (rest : Verdict) → accepted (or_else answer flaw rest) ≡ true → (answer ≡ true) × (accepted rest ≡ true)
asked true flaw rest e = (refl, e)
asked false flaw rest e = absurd (false≢true e)

-- what a check's verdict was tested for, of the verdict that it is
pub told : {verdict is : Verdict} {test answer : Bool} → verdict ≡ is → test ≡ accepted verdict → test ≡ answer → accepted is ≡ answer
told same tested answered = sym (ap accepted same) ∙ sym tested ∙ answered
