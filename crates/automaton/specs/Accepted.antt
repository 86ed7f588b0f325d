-- What holds of data that the check accepts.
use Rattle.std.specs.Prelude.{◌≡◌, ℕ, ◌<◌, ◌≤◌, true, not, ◌&&◌, [], nat_le, slice_index, slice_index_or, Ok, refl}
use Rattle.std.proofs.Common.{sym, ◌∙◌, arith}
use Rattle.std.proofs.lemmas.Bool.{leb-true, ltb-true, and_parts, cond-true, cond_both}
use Rattle.rows.specs.declared.kind.Kind.{Kind}
use Rattle.rows.specs.Places.{place}
use Rattle.rows.proofs.Places.{place_below}
use Rattle.checks.specs.declared.verdict.Flaw.TheVariants.{SizeOutOfLimits, EntryTooLarge}
use Rattle.checks.specs.Verdicts.{accepted, ask}
use Rattle.checks.specs.Below.{all_below}
use Rattle.checks.proofs.Asking.{asked}
use Rattle.checks.proofs.Below.{all_at}
use Rattle.automaton.specs.declared.data.AutomatonData.{AutomatonData}
use Rattle.automaton.specs.States.{is_state, is_lit, next_state}
use Rattle.automaton.specs.Checks.{states_fit, start_fits, row_fits, fits_at, entries_fit, verdict_of, trivial_data, or_trivial}

pub record Good (d : AutomatonData) : Type 0 where
  pub within : (s : ℕ) → is_state d s ≡ true → s < 16
  pub started : is_state d d.start ≡ true
  pub onward : (k : Kind) (s : ℕ) → is_state d s ≡ true → is_state d (next_state d k s) ≡ true

pub good : (d : AutomatonData) → accepted (verdict_of d) ≡ true → Good d
good d e =
    let size = asked (states_fit d) SizeOutOfLimits (ask (start_fits d && entries_fit d) EntryTooLarge) e in
    let few : d.states ≤ 16 = leb-true d.states 16 (and_parts (nat_le 1 d.states) (nat_le d.states 16) size.0).1 in
    let within : (s : ℕ) → is_state d s ≡ true → s < 16 = λ s state. omega (arith, few, ltb-true s d.states state) in
    let fit = and_parts (start_fits d) (entries_fit d) (asked (start_fits d && entries_fit d) EntryTooLarge (Ok tt) size.1).0 in
    record {
      within = within;
      started = fit.0;
      onward = λ k s state.
          let row = slice_index_or d.next s [] in
          let here : row_fits d row ≡ true = sym (cond-true (is_state d s) (row_fits d row) (not (is_lit d s)) state) ∙ all_at 16 (fits_at d) s fit.1 (within s state) in
          all_at 8 (λ p. is_state d (slice_index row p)) (place k) here (place_below k);
    }

pub trivial_accepted : accepted (verdict_of trivial_data) ≡ true
unfolding all_below
trivial_accepted = refl

pub or_trivial_accepted : (d : AutomatonData) → accepted (verdict_of (or_trivial d)) ≡ true
or_trivial_accepted d = cond_both (accepted (verdict_of d)) d trivial_data (λ e. accepted (verdict_of e) ≡ true) (λ yes_said. yes_said) (λ no_said. trivial_accepted)
