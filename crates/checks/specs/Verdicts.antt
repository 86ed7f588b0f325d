-- Questions asked in order, of which the first that is answered no decides.
use Rattle.std.specs.Prelude.{ℕ, Bool, true, false, cond, List, [], ◌∷◌, Result, Ok, Err}
use Rattle.checks.specs.declared.verdict.Flaw.{Flaw}
use Rattle.checks.specs.declared.verdict.Flaw.TheVariants.{SizeOutOfLimits, EntryTooLarge, UnitNotNeutral, NotAssociative}

-- nothing, or the first flaw
abbrev pub Verdict : Type 0
Verdict = Result (Unit {0}) Flaw

-- the number of each verdict
abbrev pub number_of : Verdict → ℕ
number_of (Ok _) = 0
number_of (Err SizeOutOfLimits) = 21
number_of (Err EntryTooLarge) = 22
number_of (Err UnitNotNeutral) = 23
number_of (Err NotAssociative) = 24

abbrev pub accepted : Verdict → Bool
accepted (Ok _) = true
accepted (Err _) = false

-- a question: whether the answer is yes, and the flaw where it is no
abbrev pub Question : Type 0
Question = Bool × Flaw

-- what comes of an answer: what the later questions give where it is yes, and what is wrong where it is no
abbrev pub or_else : {E : Type 0} → Bool → E → Result (Unit {0}) E → Result (Unit {0}) E
or_else true wrong rest = rest
or_else false wrong rest = Err wrong

-- one question alone
abbrev pub ask : {E : Type 0} → Bool → E → Result (Unit {0}) E
ask answer wrong = or_else answer wrong (Ok tt)

abbrev pub first_no : List Question → Verdict
first_no [] = Ok tt
first_no (q ∷ qs) = or_else q.0 q.1 (first_no qs)

-- the data, or the trivial ones where the verdict on them is no
abbrev pub taken : {D : Type 0} → (D → Verdict) → D → D → D
taken verdict trivial d = cond (accepted (verdict d)) d trivial
