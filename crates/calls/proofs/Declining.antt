-- A call that the plain book refuses changes nothing.
use Rattle.std.proofs.Common.{◌≡◌, ℕ, ◌+◌, ◌%◌, ◌^◌, ◌<◌, Bool, List, Some, None, Option, Ok, Err, Result, sym, refl, ap, ◌∙◌, subst, arith, MatchOption, MatchResult}
use Rattle.std.specs.Result.{result_err}
use Rattle.cells.proofs.Lookup.{none-some}
use Rattle.monoid.specs.Meaning.{Meaning}
use Rattle.plain.specs.declared.call.Call.{Call}
use Rattle.plain.specs.declared.refusal.Refusal.{Refusal}
use Rattle.plain.specs.Refusals.{answered}
use Rattle.plain.specs.Plain.{words, refusal, unless}
use Rattle.plain.specs.Steps.{after}
use Rattle.plain.proofs.Unbroken.{unbroken}
use Rattle.records.specs.declared.records.Records.{Records}
use Rattle.cells.specs.declared.cell.Cell.{Cell}
use Rattle.records.specs.Views.{outline_of, refusal_by}
use Rattle.calls.specs.declared.outcome.Outcome.{Outcome}
use Rattle.calls.specs.Models.{Model, plain_of}
use Rattle.calls.specs.Sound.{Sound}
use Rattle.calls.specs.Steps.{Step}
use Rattle.calls.specs.Ways.{dark}
use Rattle.calls.specs.Calls.{Called}
use Rattle.calls.proofs.Outlining.{refusal_same}

-- no product more leaves a tally as it is
pub tally_same : (t n : ℕ) → t < 2 ^ 64 → n ≡ 0 → t ≡ (t + n) % 2 ^ 64
tally_same t n fits none = omega arith

-- what a tally has risen by, read before and after
pub tally_risen : (t t' told tells n : ℕ) → told ≡ t → tells ≡ t' → tells ≡ (told + n) % 2 ^ 64 → t' ≡ (t + n) % 2 ^ 64
tally_risen t t' told tells n before after risen = sym after ∙ risen ∙ ap (λ k. (k + n) % 2 ^ 64) before

-- the step of a call that is refused is to the same model
pub step_refused : {E : Type 0} (lawful : Bool) (m : Meaning E) (b : Records) (x : List (Cell E)) (before : Model E) (call : Call) (reason : Refusal) → Sound lawful m b x before → refusal_by b call ≡ Some reason → Step lawful m b.capacity before call (dark (Some reason) 0) before
step_refused lawful m b x before call reason sound refused =
    let said : Some reason ≡ refusal b.capacity (plain_of before) call = sym refused ∙ refusal_same b before sound.said call in
    record {
      book_is = ap (λ o. unless o (after words (plain_of before) call) (plain_of before)) said;
      answers = record {
        refusal_is = said;
        unbroken = λ broken. unbroken b.capacity (outline_of b) call (refused ∙ broken);
        lamps_are = λ l. refl;
        verdicts = λ l e a. absurd (none-some (sym e));
        wide = refl;
      };
      bounded = record { most = omega arith; quiet = λ e p. refl };
      leaves = record {
        declined = λ other e. refl;
        others = λ tag h. refl;
        source = λ tag new is. refl;
        spared = λ e. absurd (none-some (sym e));
      };
      renewed = λ l e. absurd (none-some (sym e));
    }

-- what every call promises, of one that is refused
pub refused_called : {S E : Type 0} (meaning : S → Meaning E) (orderly : S → Type 0) (tally : S → ℕ) (b : Records) (x : List (Cell E)) (s : S) (call : Call) (reason : Refusal) (r : Outcome) → tally s < 2 ^ 64 → refusal_by b call ≡ Some reason → r ≡ dark (Some reason) 0 → Called meaning orderly tally b b x x s s call r
refused_called meaning orderly tally b x s call reason r fits refused is =
    subst (λ (v : Outcome). Called meaning orderly tally b b x x s s call v) (sym is) (
    record {
      declined = λ other e. record { refusal_is = sym refused ∙ e; records_same = refl; cells_same = refl; recogniser_same = refl; lamps_none = refl; no_count = refl };
      accepted = λ e. absurd (none-some (sym e ∙ refused));
      capacity = refl;
      outside = refl;
      cells_kept = λ k. refl;
      records_kept = λ k. refl;
      recogniser_kept = λ k. refl;
      unasked = λ k. refl;
      same = refl;
      order = λ o. o;
      counted = tally_same (tally s) 0 fits refl;
      works = λ lawful ordered before sound. (before, step_refused lawful (meaning s) b x before call reason sound refused, sound);
    }
    )

-- a call that the records admit is accepted
pub admitted : (b : Records) (call : Call) (told : Result (Unit {0}) Refusal) (v : Unit {0}) → told ≡ Ok v → told ≡ answered (refusal_by b call) → refusal_by b call ≡ None
admitted b call told v e is = go (refusal_by b call) (sym e ∙ is)
  where
    go : (o : Option Refusal) → Ok v ≡ answered o → o ≡ None
    go None h = refl
    go (Some reason) h = cc

-- one that they do not admit keeps what every call promises
pub declined_called : {S E : Type 0} (meaning : S → Meaning E) (orderly : S → Type 0) (tally : S → ℕ) (b : Records) (x : List (Cell E)) (s : S) (call : Call) (r : Outcome) → tally s < 2 ^ 64 → (told : Result (Unit {0}) Refusal) (reason : Refusal) → told ≡ Err reason → told ≡ answered (refusal_by b call) → r ≡ dark (Some reason) 0 → Called meaning orderly tally b b x x s s call r
declined_called meaning orderly tally b x s call r fits told reason e is dim = refused_called meaning orderly tally b x s call reason r fits (err_answered (refusal_by b call) reason (sym e ∙ is)) dim
  where
    err_answered : (o : Option Refusal) (reason' : Refusal) → Err reason' ≡ answered o → o ≡ Some reason'
    err_answered None reason' h = cc
    err_answered (Some other) reason' h = cc

-- the refusal that came of it, if there is one
error_of : (refusal : Option Refusal) → result_err (answered refusal) ≡ refusal
error_of None = refl
error_of (Some reason) = refl

module _ (told : Result (Unit {0}) Refusal) (refusal : Option Refusal) (error : refusal ≡ result_err told) where
  pub error_is : (b : Records) (call : Call) → told ≡ answered (refusal_by b call) → refusal ≡ refusal_by b call
  error_is b call is = error ∙ ap result_err is ∙ error_of (refusal_by b call)

  pub error_cases : (P : Type 0) (Q : Refusal → Type 0) → MatchResult told (λ v. P) Q → MatchOption refusal P Q
  error_cases P Q cases = subst (λ (o : Option Refusal). MatchOption o P Q) (sym error) (go told cases)
    where
      go : (t : Result (Unit {0}) Refusal) → MatchResult t (λ v. P) Q → MatchOption (result_err t) P Q
      go (Ok v) h = h
      go (Err reason) h = h
