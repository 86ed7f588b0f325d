-- The questions that an automaton's data are asked, in words, and what each verdict therefore says.
use Rattle.std.proofs.Common.{◌≡◌, ℕ, ◌<◌, ◌≤◌, true, false, ◌&&◌, [], Ok, ◌⊎◌, sym, ◌∙◌, subst, ⊎_elim, arith}
use Rattle.std.specs.Prelude.{slice_index, slice_index_or}
use Rattle.std.proofs.lemmas.Bool.{false≢true, cases_lt}
use Rattle.rows.specs.declared.kind.Kind.{Kind}
use Rattle.rows.specs.Places.{place}
use Rattle.rows.proofs.Places.{place_below, kind_there}
use Rattle.checks.specs.declared.verdict.Flaw.TheVariants.{SizeOutOfLimits, EntryTooLarge}
use Rattle.checks.specs.Verdicts.{Verdict, ask}
use Rattle.checks.proofs.Wording.{Asks, asks_below, asks_within, asks_both, asks_each, asks_where, asks_not, in_words, other_number, said_here, said_later, said_last}
use Rattle.automaton.specs.declared.data.AutomatonData.{AutomatonData}
use Rattle.automaton.specs.States.{is_state, is_lit, next_state}
use Rattle.automaton.specs.Checks.{states_fit, start_fits, row_fits, fits_at, entries_fit, verdict_of}
use Rattle.automaton.specs.Verdicts.{StatesFit, StatesUnfit, AllStates, TooLarge, start, next, lit, Says}

module _ (d : AutomatonData) where
  states_ask : Asks (states_fit d) (StatesFit d) (StatesUnfit d)
  states_ask =
      in_words
      (asks_both (asks_within 1 d.states) (asks_within d.states 16))
      (λ fit. record { some = fit.0; few = fit.1 })
      (λ out. out)
      (λ fit out. ⊎_elim (λ none. omega (arith, fit.some)) (λ more. omega (arith, fit.few)) out)

  -- at a number: where it is a state, it leads to states; where it is none, it is not lit
  row_asks : (s : ℕ) → Asks (row_fits d (slice_index_or d.next s [])) ((k : Kind) → next_state d k s < d.states) ((k : Kind) × (d.states ≤ next_state d k s))
  row_asks s =
      let row = slice_index_or d.next s [] in
      in_words
      (asks_each 8 (λ p. is_state d (slice_index row p)) (λ p h. asks_below (slice_index row p) d.states))
      (λ fit k. fit (place k) (place_below k))
      (λ out. let there = kind_there out.0 out.1 in (there.0, subst (λ p. d.states ≤ slice_index row p) (sym there.1) out.2))
      (λ fit out. let below = fit out.0 in let past = out.1 in omega arith)

  at_asks : (s : ℕ) → Asks (fits_at d s) (((s < d.states) → (k : Kind) → next_state d k s < d.states) × ((d.states ≤ s) → is_lit d s ≡ false)) (((s < d.states) × ((k : Kind) × (d.states ≤ next_state d k s))) ⊎ ((d.states ≤ s) × (is_lit d s ≡ true)))
  at_asks s = asks_where (asks_below s d.states) (row_asks s) (asks_not (is_lit d s))

  apart : AllStates d → TooLarge d → ⊥
  apart all (start h) = let below = all.start in omega arith
  apart all (next s k state h) = let below = all.next s k state in omega arith
  apart all (lit s within e h) = let below = all.lit s within e in omega arith

  entries_ask : StatesFit d → Asks (start_fits d && entries_fit d) (AllStates d) (TooLarge d)
  entries_ask fits =
      in_words
      (asks_both (asks_below d.start d.states) (asks_each 16 (fits_at d) (λ s h. at_asks s)))
      (λ fit. record {
        start = fit.0;
        next = λ s k state. (fit.1 s (let few = fits.few in omega arith)).0 state k;
        lit = λ s within e. ⊎_elim (λ state. state) (λ none. absurd (false≢true (sym ((fit.1 s within).1 none) ∙ e))) (cases_lt s d.states);
      })
      (λ out. ⊎_elim start (λ some. ⊎_elim (λ row. next some.0 row.1.0 row.0 row.1.1) (λ other. lit some.0 some.1 other.1 other.0) some.2) out)
      apart

  pub says : (v : Verdict) → v ≡ verdict_of d → Says d v
  says v is =
      let entries = start_fits d && entries_fit d in
      let later = ask entries EntryTooLarge in
      subst (Says d) (sym is) (record {
        accepted = said_later (states_fit d) SizeOutOfLimits later 0 (λ e. omega arith) states_ask (λ fits. said_last entries EntryTooLarge (entries_ask fits));
        size_out_of_limits = said_here (states_fit d) SizeOutOfLimits later (other_number entries EntryTooLarge (Ok tt) 21 (λ e. omega arith) (λ e. omega arith)) states_ask;
        entry_too_large = said_later (states_fit d) SizeOutOfLimits later 22 (λ e. omega arith) states_ask (λ fits. said_here entries EntryTooLarge (Ok tt) (λ e. omega arith) (entries_ask fits));
      })
