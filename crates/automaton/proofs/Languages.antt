-- The image of a word under an automaton leads each state to where the run over the word ends.
use Rattle.std.proofs.Common.{◌≡◌, ℕ, ◌<◌, true, false, [], ◌∷◌, get_or, replicate, sym, refl, ap, ◌∙◌, subst, ⊎_elim}
use Rattle.std.proofs.lemmas.List.{get_or-replicate, get_or_past}
use Rattle.std.proofs.lemmas.Bool.{false≢true, cond-true, cond-false, cases_lt}
use Rattle.monoid.specs.Meaning.{Meaning}
use Rattle.monoid.specs.Words.{Word, run, image_of, Recognises}
use Rattle.checks.specs.Verdicts.{accepted}
use Rattle.automaton.specs.declared.data.AutomatonData.{AutomatonData}
use Rattle.automaton.specs.declared.state_map.StateMap.{StateMap}
use Rattle.automaton.specs.States.{is_state, is_lit, next_state}
use Rattle.automaton.specs.Checks.{verdict_of, trivial_data}
use Rattle.automaton.specs.Maps.{leads, identity, composed, moved, step}
use Rattle.automaton.specs.Meanings.{running, automaton_from}
use Rattle.automaton.specs.Languages.{run_from, ends_lit, Runs}
use Rattle.automaton.specs.MapsLemmas.{leads_by}
use Rattle.automaton.specs.Accepted.{Good, good}
use Rattle.automaton.specs.Sound.{moved_on}

module _ (d : AutomatonData) (fine : Good d) where
  run-leads : (x : StateMap) (w : Word) (s : ℕ) → s < 16 → is_state d (leads x s) ≡ true → leads (run (running d) x w) s ≡ run_from d (leads x s) w
  run-leads x [] s within state = refl
  run-leads x (k ∷ w) s within state =
      let t = leads x s in
      let on : leads (composed x (step d k)) s ≡ next_state d k t = leads_by (λ r. leads (step d k) (leads x r)) s within ∙ leads_by (moved d k) t (fine.within t state) ∙ moved_on d k t state in
      run-leads (composed x (step d k)) w s within (ap (is_state d) on ∙ fine.onward k t state) ∙ ap (λ r. run_from d r w) on

  pub image_leads : (w : Word) → leads (image_of (running d) w) d.start ≡ run_from d d.start w
  image_leads w =
      let within : d.start < 16 = fine.within d.start fine.started in
      let there : leads identity d.start ≡ d.start = leads_by (λ r. r) d.start within in
      run-leads identity w d.start within (ap (is_state d) there ∙ fine.started) ∙ ap (λ r. run_from d r w) there

  pub running_recognises : Recognises (running d) 0 (ends_lit d)
  running_recognises = record {
    only = λ w h. ap (is_lit d) (sym (image_leads w)) ∙ h;
    every = λ w h. ap (is_lit d) (image_leads w) ∙ h;
  }

never_lit : (s : ℕ) → get_or (replicate 16 false) s false ≡ false
never_lit s = ⊎_elim (λ h. get_or-replicate 16 s false false h) (λ h. get_or_past (replicate 16 false) s false h) (cases_lt s 16)

pub trivial_recognises : Recognises (running trivial_data) 0 (λ w. ⊥)
trivial_recognises = record {
  only = λ w h. false≢true (sym (never_lit (leads (image_of (running trivial_data) w) 0)) ∙ h);
  every = λ w h. absurd h;
}

-- an automaton that means what is made from the data recognises what they say
pub automaton_runs : (d : AutomatonData) (m : Meaning StateMap) → m ≡ automaton_from d → Runs d m
automaton_runs d m is = record {
  taken = λ yes_said. subst (λ (v : Meaning StateMap). Recognises v 0 (ends_lit d)) (sym (is ∙ ap running (cond-true (accepted (verdict_of d)) d trivial_data yes_said))) (running_recognises d (good d yes_said));
  declined = λ no_said. subst (λ (v : Meaning StateMap). Recognises v 0 (λ w. ⊥)) (sym (is ∙ ap running (cond-false (accepted (verdict_of d)) d trivial_data no_said))) trivial_recognises;
}
