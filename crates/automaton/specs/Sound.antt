-- Where a sound map leads: states to states, and what is no state to itself.
use Rattle.std.specs.Prelude.{◌≡◌, ℕ, ◌<◌, true, false, length, ◌==◌, refl}
use Rattle.std.proofs.Common.{sym, ap, ◌∙◌, ⊎_elim, arith}
use Rattle.std.proofs.lemmas.Bool.{eqb-true, eq-eqb, and_parts, and_from, cond-true, cond-false, cases_Bool}
use Rattle.rows.specs.declared.kind.Kind.{Kind}
use Rattle.checks.specs.Below.{all_below}
use Rattle.checks.proofs.Below.{all_at, all_from}
use Rattle.automaton.specs.declared.data.AutomatonData.{AutomatonData}
use Rattle.automaton.specs.declared.state_map.StateMap.{StateMap}
use Rattle.automaton.specs.States.{is_state, next_state}
use Rattle.automaton.specs.Maps.{leads, map_by, moved, may_lead, is_map}
use Rattle.automaton.specs.MapsLemmas.{leads_by, long_by}
use Rattle.automaton.specs.Accepted.{Good}

module _ (d : AutomatonData) where
  -- at a state, and at what is none
  at_state : (s t : ℕ) → is_state d s ≡ true → may_lead d s t ≡ is_state d t
  at_state s t state = cond-true (is_state d s) (is_state d t) (t == s) state

  at_none : (s t : ℕ) → is_state d s ≡ false → may_lead d s t ≡ (t == s)
  at_none s t none = cond-false (is_state d s) (is_state d t) (t == s) none

  stays : (s t : ℕ) → is_state d s ≡ false → may_lead d s t ≡ true → t ≡ s
  stays s t none may = eqb-true t s (sym (at_none s t none) ∙ may)

  pub moved_on : (k : Kind) (s : ℕ) → is_state d s ≡ true → moved d k s ≡ next_state d k s
  moved_on k s state = cond-true (is_state d s) (next_state d k s) s state

  pub may_stay : (s : ℕ) → may_lead d s s ≡ true
  may_stay s = ⊎_elim (λ state. at_state s s state ∙ state) (λ none. at_none s s none ∙ eq-eqb s s refl) (cases_Bool (is_state d s))

  pub may_both : (s t u : ℕ) → may_lead d s t ≡ true → may_lead d t u ≡ true → may_lead d s u ≡ true
  may_both s t u first second =
      ⊎_elim
      (λ state. at_state s u state ∙ sym (at_state t u (sym (at_state s t state) ∙ first)) ∙ second)
      (λ none. ap (λ v. may_lead d v u) (sym (stays s t none first)) ∙ second)
      (cases_Bool (is_state d s))

  -- a map is sound where it leads each of the sixteen to where it may
  pub sound_by : (f : ℕ → ℕ) → ((s : ℕ) → s < 16 → may_lead d s (f s) ≡ true) → is_map d (map_by f) ≡ true
  sound_by f each =
      and_from (length (map_by f).to == 16) (all_below 16 (λ s. may_lead d s (leads (map_by f) s)))
      (eq-eqb (length (map_by f).to) 16 (long_by f))
      (all_from 16 (λ s. may_lead d s (leads (map_by f) s)) (λ s h. ap (may_lead d s) (leads_by f s h) ∙ each s h))

module _ (d : AutomatonData) (x : StateMap) (sound : is_map d x ≡ true) where
  parts : ((length x.to == 16) ≡ true) × (all_below 16 (λ s. may_lead d s (leads x s)) ≡ true)
  parts = and_parts (length x.to == 16) (all_below 16 (λ s. may_lead d s (leads x s))) sound

  pub sound_long : length x.to ≡ 16
  sound_long = eqb-true (length x.to) 16 parts.0

  pub sound_at : (s : ℕ) → s < 16 → may_lead d s (leads x s) ≡ true
  sound_at s h = all_at 16 (λ r. may_lead d r (leads x r)) s parts.1 h

module _ (d : AutomatonData) (fine : Good d) where
  pub sound_within : (x : StateMap) → is_map d x ≡ true → (s : ℕ) → s < 16 → leads x s < 16
  sound_within x sound s h =
      let may = sound_at d x sound s h in
      ⊎_elim
      (λ state. fine.within (leads x s) (sym (at_state d s (leads x s) state) ∙ may))
      (λ none. let same : leads x s ≡ s = stays d s (leads x s) none may in omega arith)
      (cases_Bool (is_state d s))

  pub may_move : (k : Kind) (s : ℕ) → may_lead d s (moved d k s) ≡ true
  may_move k s =
      ⊎_elim
      (λ state. at_state d s (moved d k s) state ∙ ap (is_state d) (moved_on d k s state) ∙ fine.onward k s state)
      (λ none. at_none d s (moved d k s) none ∙ eq-eqb (moved d k s) s (cond-false (is_state d s) (next_state d k s) s none))
      (cases_Bool (is_state d s))
