-- The questions that a counter's data are asked, in words, and what each verdict therefore says.
use Rattle.std.proofs.Common.{◌≡◌, ◌≤◌, ◌&&◌, ltb, get_or, Ok, sym, subst, ⊎_elim, arith}
use Rattle.rows.specs.Places.{place}
use Rattle.rows.proofs.Places.{place_below, kind_there}
use Rattle.checks.specs.declared.verdict.Flaw.TheVariants.{SizeOutOfLimits, EntryTooLarge}
use Rattle.checks.specs.Verdicts.{Verdict, ask}
use Rattle.checks.proofs.Wording.{Asks, asks_below, asks_within, asks_both, asks_each, in_words, other_number, said_here, said_later, said_last}
use Rattle.counter.specs.declared.data.CounterData.{CounterData}
use Rattle.counter.specs.Checks.{modulus_fits, weights_fit, residue_fits, verdict_of}
use Rattle.counter.specs.Verdicts.{ModulusFits, ModulusUnfit, AllBelow, TooLarge, weight, residue, Says}

module _ (d : CounterData) where
  modulus_asks : Asks (modulus_fits d) (ModulusFits d) (ModulusUnfit d)
  modulus_asks =
      in_words
      (asks_both (asks_within 1 d.modulus) (asks_within d.modulus 1000000))
      (λ fit. record { some = fit.0; few = fit.1 })
      (λ out. out)
      (λ fit out. ⊎_elim (λ none. omega (arith, fit.some)) (λ more. omega (arith, fit.few)) out)

  apart : AllBelow d → TooLarge d → ⊥
  apart all (weight k h) = let below = all.weights k in omega arith
  apart all (residue h) = let below = all.residue in omega arith

  entries_ask : Asks (weights_fit d && residue_fits d) (AllBelow d) (TooLarge d)
  entries_ask =
      in_words
      (asks_both (asks_each 8 (λ p. ltb (get_or d.weights p 0) d.modulus) (λ p h. asks_below (get_or d.weights p 0) d.modulus)) (asks_below d.residue d.modulus))
      (λ fit. record { weights = λ k. fit.0 (place k) (place_below k); residue = fit.1 })
      (λ out. ⊎_elim (λ some. let there = kind_there some.0 some.1 in weight there.0 (subst (λ p. d.modulus ≤ get_or d.weights p 0) (sym there.1) some.2)) residue out)
      apart

  pub says : (v : Verdict) → v ≡ verdict_of d → Says d v
  says v is =
      let entries = weights_fit d && residue_fits d in
      let later = ask entries EntryTooLarge in
      subst (Says d) (sym is) (record {
        accepted = said_later (modulus_fits d) SizeOutOfLimits later 0 (λ e. omega arith) modulus_asks (λ _. said_last entries EntryTooLarge entries_ask);
        size_out_of_limits = said_here (modulus_fits d) SizeOutOfLimits later (other_number entries EntryTooLarge (Ok tt) 21 (λ e. omega arith) (λ e. omega arith)) modulus_asks;
        entry_too_large = said_later (modulus_fits d) SizeOutOfLimits later 22 (λ e. omega arith) modulus_asks (λ _. said_here entries EntryTooLarge (Ok tt) (λ e. omega arith) entries_ask);
      })
