-- Open, rename and pause keep what every call promises.
use Rattle.std.proofs.Common.{◌≡◌, ℕ, ◌<◌, ◌^◌, Bool, List, Some, None, Option, sym, refl, ◌∙◌, subst, inl, arith, MatchOption}
use Rattle.cells.proofs.Lookup.{none-some}
use Rattle.monoid.specs.Meaning.{Meaning}
use Rattle.plain.specs.declared.call.Call.{Call}
use Rattle.plain.specs.declared.call.Call.TheVariants.{Open, Rename, Pause, Recalculate}
use Rattle.plain.specs.declared.refusal.Refusal.{Refusal}
use Rattle.plain.specs.Steps.{after}
use Rattle.records.specs.declared.records.Records.{Records}
use Rattle.records.specs.Views.{standing, refusal_by}
use Rattle.records.specs.Changes.{Committed}
use Rattle.records.proofs.Committing.{outline-after}
use Rattle.cells.specs.declared.cell.Cell.{Cell}
use Rattle.cells.specs.Trees.{leaf}
use Rattle.calls.specs.declared.outcome.Outcome.{Outcome}
use Rattle.calls.specs.Models.{Model, with_tree}
use Rattle.calls.specs.Sound.{Sound}
use Rattle.calls.specs.Steps.{Step}
use Rattle.plain.specs.Forms.{Effect, looks, form}
use Rattle.calls.specs.Ways.{notes, Noting, keeps_records, dark}
use Rattle.calls.specs.Calls.{Works, Called, Answered, Noted}
use Rattle.calls.proofs.Recording.{sound_noted}
use Rattle.calls.proofs.Stepping.{step-dark}
use Rattle.calls.proofs.Declining.{tally_same, step_refused, refused_called}

-- they change the records
noted_moves : (effect : Effect) → notes effect → keeps_records effect → ⊥
noted_moves (looks shows) noted kept = noted
noted_moves _ noted kept = kept

-- none of them recalculates
not_renewal : {call : Call} {A : Type 0} {tag : ℕ} → Noting call → call ≡ Recalculate tag → A
not_renewal noted is = absurd (subst Noting is noted)

-- the step of one that is accepted, for no product
step_noted : {E : Type 0} (lawful : Bool) (m : Meaning E) (b : Records) (x : List (Cell E)) (before : Model E) (call : Call) → Noting call → Sound lawful m b x before → refusal_by b call ≡ None → Step lawful m b.capacity before call (dark None 0) (after (with_tree leaf) before call)
step_noted lawful m b x before (Open tag) n sound accepted = step-dark lawful m b x before (Open tag) leaf 0 sound accepted refl refl (omega arith) (λ e p. refl) tt (λ l t is. not_renewal n is)
step_noted lawful m b x before (Rename tag new) n sound accepted = step-dark lawful m b x before (Rename tag new) leaf 0 sound accepted refl tt (omega arith) (λ e p. refl) tt (λ l t is. not_renewal n is)
step_noted lawful m b x before (Pause tag) n sound accepted = step-dark lawful m b x before (Pause tag) leaf 0 sound accepted refl tt (omega arith) (λ e p. refl) tt (λ l t is. not_renewal n is)
step_noted lawful m b x before _ n sound accepted = absurd n

-- the first unused cell that is committed is the one that the records had
committed_head : (b b' : Records) (call : Call) (refusal : Option Refusal) (unused : Option ℕ) → unused ≡ b.unused → MatchOption refusal (Committed b b' call None unused) (λ reason. b' ≡ b) → MatchOption refusal (Committed b b' call None b.unused) (λ reason. b' ≡ b)
committed_head b b' call refusal unused head cases = subst (λ (h : Option ℕ). MatchOption refusal (Committed b b' call None h) (λ reason. b' ≡ b)) head cases

module _ (b b' : Records) (call : Call) (r : Outcome) where
  -- the records are committed with no root, and answer what they are asked
  pub noted_by : (refusal : Option Refusal) (unused : Option ℕ) → refusal ≡ refusal_by b call → unused ≡ b.unused → MatchOption refusal (Committed b b' call None unused) (λ reason. b' ≡ b) → r ≡ dark refusal 0 → Noted b b' call r
  noted_by refusal unused is head cases dim = subst (λ (v : Outcome). Noted b b' call v) (sym dim) (record { refusal_is = is; cases = committed_head b b' call refusal unused head cases; lamps_none = refl; count_none = refl })

  module _ (noted : Noted b b' call r) where
    by_refusal : (o : Option Refusal) → r.refusal ≡ o → MatchOption o (Committed b b' call None b.unused) (λ reason. b' ≡ b)
    by_refusal o is = subst (λ (o : Option Refusal). MatchOption o (Committed b b' call None b.unused) (λ reason. b' ≡ b)) is noted.cases

    pub noted_answered : Answered b b' call r
    noted_answered = record {
      declined = λ reason e. let is = noted.refusal_is ∙ e in (is, by_refusal (Some reason) is, noted.lamps_none, noted.count_none);
      accepted = λ e. let is = noted.refusal_is ∙ e in inl (is, outline-after b call None e (standing b') (by_refusal None is).sheets);
    }

-- from a sound book to a sound one, whatever the recogniser is
accepted_works : {E : Type 0} (lawful : Bool) (m : Meaning E) (b b' : Records) (x : List (Cell E)) (call : Call) → Noting call → refusal_by b call ≡ None → Committed b b' call None b.unused → Works lawful m b b' x x call (dark None 0)
accepted_works lawful m b b' x call noted accepted committed before sound =
    (after (with_tree leaf) before call, step_noted lawful m b x before call noted sound accepted, sound_noted lawful m b b' x before None sound call noted committed)

works_by_cases : {E : Type 0} (lawful : Bool) (m : Meaning E) (b b' : Records) (x : List (Cell E)) (call : Call) → Noting call → (refusal : Option Refusal) → refusal ≡ refusal_by b call → MatchOption refusal (Committed b b' call None b.unused) (λ reason. b' ≡ b) → Works lawful m b b' x x call (dark refusal 0)
works_by_cases lawful m b b' x call noted None is committed = accepted_works lawful m b b' x call noted (sym is) committed
works_by_cases lawful m b b' x call noted (Some reason) is kept =
    subst (λ (v : Records). Works lawful m b v x x call (dark (Some reason) 0)) (sym kept) (λ before sound. (before, step_refused lawful m b x before call reason sound (sym is), sound))

pub noted_works : {E : Type 0} (lawful : Bool) (m : Meaning E) (b b' : Records) (x : List (Cell E)) (call : Call) → Noting call → (refusal : Option Refusal) (unused : Option ℕ) (r : Outcome) → refusal ≡ refusal_by b call → unused ≡ b.unused → MatchOption refusal (Committed b b' call None unused) (λ reason. b' ≡ b) → r ≡ dark refusal 0 → Works lawful m b b' x x call r
noted_works lawful m b b' x call noted refusal unused r is head cases dim =
    subst (λ (v : Outcome). Works lawful m b b' x x call v) (sym dim) (works_by_cases lawful m b b' x call noted refusal is (committed_head b b' call refusal unused head cases))

module _ {S E : Type 0} (meaning : S → Meaning E) (orderly : S → Type 0) (tally : S → ℕ) (b b' : Records) (x : List (Cell E)) (s : S) (call : Call) (fits : tally s < 2 ^ 64) (noted : Noting call) where
  accepted-called : refusal_by b call ≡ None → Committed b b' call None b.unused → Called meaning orderly tally b b' x x s s call (dark None 0)
  accepted-called accepted committed = record {
    declined = λ reason e. absurd (none-some (sym accepted ∙ e));
    accepted = λ e. inl (refl, outline-after b call None e (standing b') committed.sheets);
    capacity = committed.capacity;
    outside = refl;
    cells_kept = λ k. refl;
    records_kept = λ k. absurd (noted_moves (form call).effect noted k);
    recogniser_kept = λ k. refl;
    unasked = λ k. refl;
    same = refl;
    order = λ o. o;
    counted = tally_same (tally s) 0 fits refl;
    works = λ lawful ordered. accepted_works lawful (meaning s) b b' x call noted accepted committed;
  }

  by_cases : (refusal : Option Refusal) → refusal ≡ refusal_by b call → MatchOption refusal (Committed b b' call None b.unused) (λ reason. b' ≡ b) → Called meaning orderly tally b b' x x s s call (dark refusal 0)
  by_cases None is committed = accepted-called (sym is) committed
  by_cases (Some reason) is kept = subst (λ (v : Records). Called meaning orderly tally b v x x s s call (dark (Some reason) 0)) (sym kept) (refused_called meaning orderly tally b x s call reason (dark (Some reason) 0) fits (sym is) refl)

  pub noted_called : (refusal : Option Refusal) (unused : Option ℕ) (r : Outcome) → refusal ≡ refusal_by b call → unused ≡ b.unused → MatchOption refusal (Committed b b' call None unused) (λ reason. b' ≡ b) → r ≡ dark refusal 0 → Called meaning orderly tally b b' x x s s call r
  noted_called refusal unused r is head cases dim =
      subst (λ (v : Outcome). Called meaning orderly tally b b' x x s s call v) (sym dim) (by_cases refusal is (committed_head b b' call refusal unused head cases))
