-- The steps of a way, taken from the last up.
use Rattle.std.proofs.Common.{◌≡◌, ℕ, ◌+◌, ◌-◌, ◌<◌, List, length, get_or, reverse, ap, ◌∙◌, arith}
use Rattle.std.proofs.lemmas.List.{get_or-take, get_or_default, get_or-reverse, length-reverse}
use Rattle.climb.specs.declared.way.Step.{Step}
use Rattle.climb.specs.declared.way.Way.{Way}
use Rattle.climb.specs.Ways.{no_step, Taken}

module _ (w : Way) (steps : List Step) (t : Taken w steps) (n : ℕ) where
  -- the next one, after so many
  pub step_turn : (one : Step) → (n < length (reverse steps)) × (one ≡ get_or (reverse steps) n one) → (n < w.depth) × ((d : ℕ) → d + n + 1 ≡ w.depth → one ≡ get_or w.steps d no_step)
  step_turn one h =
      let long = length-reverse steps in
      let all = t.long in
      let within = h.0 in
      (omega arith, λ d e. let at : length steps - 1 - n ≡ d = omega arith in h.1 ∙ get_or-reverse steps n one (omega arith) ∙ ap (λ v. get_or steps v one) at ∙ get_or_default steps d one no_step (omega arith) ∙ ap (λ v. get_or v d no_step) t.first ∙ get_or-take w.depth w.steps d no_step (omega arith))

  pub step_end : n ≡ length (reverse steps) → n ≡ w.depth
  step_end e = e ∙ length-reverse steps ∙ t.long
