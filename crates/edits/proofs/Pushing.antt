-- A way with one row more.
use Rattle.std.proofs.Common.{◌≡◌, ℕ, ◌+◌, ◌<◌, ◌≤◌, cond, ltb, ◌≢◌, List, [], ◌∷◌, length, get_or, set, ap, ◌∙◌, arith, get_or-set_other, get_or-set_same}
use Rattle.std.proofs.lemmas.Bool.{lt-ltb}
use Rattle.cells.specs.declared.links.Side.{Side}
use Rattle.climb.specs.declared.way.Step.{Step}
use Rattle.climb.specs.declared.way.Way.{Way}
use Rattle.climb.specs.Ways.{no_step, Fitting, pushed}
use Rattle.climb.specs.Frames.{Frame, spot, side, step, Stacked, Along}

pub push_is : (w v : Way) (i : ℕ) (b : Side) → w.depth < 24 → v ≡ cond (ltb w.depth 24) (pushed w i b) w → v ≡ pushed w i b
push_is w v i b room e = e ∙ ap (λ c. cond c (pushed w i b) w) (lt-ltb w.depth 24 room)

pub push_deeper : (w v : Way) (i : ℕ) (b : Side) → w.depth < 24 → v ≡ cond (ltb w.depth 24) (pushed w i b) w → v.depth ≡ w.depth + 1
push_deeper w v i b room e = ap (λ (u : Way). u.depth) (push_is w v i b room e)

module _ {E : Type 0} where
  -- a write past the stack
  stacked_set : (steps : List Step) (d : ℕ) (one : Step) (up : List (Frame E)) → length up ≤ d → Stacked steps up → Stacked (set steps d one) up
  stacked_set steps d one [] h s = tt
  stacked_set steps d one (f ∷ up) h s =
      let ne : length up ≢ d = omega arith in
      (get_or-set_other steps d (length up) one no_step ne ∙ s.0, stacked_set steps d one up (omega arith) s.1)

  pub along_push : (w : Way) (f : Frame E) (up : List (Frame E)) (i : ℕ) (b : Side) → Fitting w → w.depth < 24 → Along w up → spot f ≡ i → side f ≡ b → Along (pushed w i b) (f ∷ up)
  along_push w f up i b fit room al ei eb =
      let deep = al.deep in
      let one : Step = record { place = i; side = b } in
      let is : one ≡ step f = (let a = ei in let b' = eb in cc) in
      record {
        deep = omega arith;
        stacked = (
          ap (λ v. get_or (set w.steps w.depth one) v no_step) deep ∙ get_or-set_same w.steps w.depth one no_step (omega arith) ∙ is,
          stacked_set w.steps w.depth one up (omega arith) al.stacked,
        );
      }
