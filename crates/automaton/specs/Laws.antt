-- The maps of an automaton's states are a monoid, in order always.
use Rattle.std.specs.Prelude.{◌≡◌, ℕ, zero, suc, ◌≤◌, false, refl}
use Rattle.std.proofs.Common.{sym, ap, ◌∙◌, arith}
use Rattle.monoid.specs.Laws.{Shaped, Lawful}
use Rattle.automaton.specs.declared.data.AutomatonData.{AutomatonData}
use Rattle.automaton.specs.declared.state_map.StateMap.{StateMap}
use Rattle.automaton.specs.declared.automaton.Automaton.{Automaton}
use Rattle.automaton.specs.Maps.{leads, identity, composed, moved}
use Rattle.automaton.specs.Meanings.{running, lights_at, automaton_meaning}
use Rattle.automaton.specs.MapsLemmas.{follows, leads_by, same_by}
use Rattle.automaton.specs.Accepted.{Good, good}
use Rattle.automaton.specs.Sound.{may_stay, may_both, may_move, sound_by, sound_long, sound_at, sound_within}

unlit : (d : AutomatonData) (x : StateMap) (j : ℕ) → 1 ≤ j → lights_at d x j ≡ false
unlit d x zero h = absurd (omega arith)
unlit d x (suc j) h = refl

pub automaton_shaped : (a : Automaton) → Shaped (automaton_meaning a)
automaton_shaped a = record { some_width = omega arith; few_lamps = omega arith; no_more = unlit a.data }

pub running_lawful : (d : AutomatonData) → Good d → Lawful (running d)
running_lawful d fine = record {
  sound_unit = sound_by d (λ s. s) (λ s h. may_stay d s);
  sound_image = λ k. sound_by d (moved d k) (λ s h. may_move d fine k s);
  sound_mul = λ x y p q. sound_by d (λ s. leads y (leads x s)) (λ s h.
      may_both d s (leads x s) (leads y (leads x s)) (sound_at d x p s h) (sound_at d y q (leads x s) (sound_within d fine x p s h)));
  left = λ x p. sym (follows (λ s. leads x (leads identity s)) x (sound_long d x p) (λ s h.
      ap (leads x) (sym (leads_by (λ r. r) s h))));
  right = λ x p. sym (follows (λ s. leads identity (leads x s)) x (sound_long d x p) (λ s h.
      sym (leads_by (λ r. r) (leads x s) (sound_within d fine x p s h))));
  assoc = λ x y z p q r. same_by (λ s. leads z (leads (composed x y) s)) (λ s. leads (composed y z) (leads x s)) (λ s h.
      ap (leads z) (leads_by (λ v. leads y (leads x v)) s h) ∙ sym (leads_by (λ v. leads z (leads y v)) (leads x s) (sound_within d fine x p s h)));
}

pub automaton_lawful : (a : Automaton) → Lawful (automaton_meaning a)
automaton_lawful a = running_lawful a.data (good a.data a.checked)
