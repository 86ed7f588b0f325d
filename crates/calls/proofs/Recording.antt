-- Calls that change the records alone leave the book sound.
use Rattle.std.proofs.Common.{◌≡◌, ℕ, Bool, List, take, Option, sym, refl, ap, ◌∙◌, subst, arith}
use Rattle.monoid.specs.Meaning.{Meaning}
use Rattle.plain.specs.declared.state.State.TheVariants.{Paused}
use Rattle.plain.specs.declared.call.Call.{Call}
use Rattle.plain.specs.declared.call.Call.TheVariants.{Open, Rename, Pause}
use Rattle.plain.specs.Calls.{tag_of}
use Rattle.plain.specs.Sheets.{fresh, retagged, restated, rows_of}
use Rattle.plain.specs.Steps.{after}
use Rattle.plain.proofs.Mapping.{CarriesAt, after_map_at}
use Rattle.records.specs.declared.records.Records.{Records}
use Rattle.records.specs.Changes.{rooted, sheets_of, Committed}
use Rattle.cells.specs.declared.cell.Cell.{Cell}
use Rattle.cells.specs.Trees.{Tree, leaf, count}
use Rattle.unused.specs.Listed.{Listed}
use Rattle.unused.specs.Freeing.{sum}
use Rattle.calls.specs.Models.{Model, rooted_of, recorded, trees_of, with_tree}
use Rattle.calls.specs.Sound.{AllHeld, own, Sound}
use Rattle.calls.specs.Ways.{Noting}
use Rattle.calls.proofs.Outlining.{model_tagged}
use Rattle.calls.proofs.Holding.{held_append, held_altered, trees_append, trees_altered, sum-append}

-- what the records say, where the tree of the sheet that is changed or made has that root
pub said-after : {E : Type 0} (b b' : Records) (model : Model E) (root unused : Option ℕ) (u : Tree E) (call : Call) → sheets_of b ≡ recorded model → Committed b b' call root unused → CarriesAt (with_tree u) (rooted root) rooted_of call (rows_of leaf (tag_of call) model) → sheets_of b' ≡ recorded (after (with_tree u) model call)
said-after b b' model root unused u call said committed at =
    committed.sheets
    ∙ ap (λ ss. after (rooted root) ss call) said
    ∙ sym (after_map_at (with_tree u) (rooted root) rooted_of model (model_tagged b model said) call leaf at)

module _ {E : Type 0} (lawful : Bool) (m : Meaning E) (b b' : Records) (cells : List (Cell E)) (model : Model E) (root : Option ℕ) (sound : Sound lawful m b cells model) where
  -- the trees are the same, or one without rows came to them
  pub sound_after : (u : Tree E) (call : Call) → Committed b b' call root b.unused → CarriesAt (with_tree u) (rooted root) rooted_of call (rows_of leaf (tag_of call) model) → AllHeld lawful m (own b cells) (after (with_tree u) model call) → ((q : ℕ) → sum (count q) (trees_of (after (with_tree u) model call)) ≡ sum (count q) (trees_of model)) → Sound lawful m b' cells (after (with_tree u) model call)
  sound_after u call committed at held same =
      let capacity = committed.capacity in
      let same_own : own b' cells ≡ own b cells = ap (λ n. take n cells) capacity in
      record {
        said = said-after b b' model root b.unused u call sound.said committed at;
        held = subst (λ (x : List (Cell E)). AllHeld lawful m x (after (with_tree u) model call)) (sym same_own) held;
        places = sound.places;
        listed = subst (λ (x : List (Cell E)). Listed x b'.unused sound.places) (sym same_own) (subst (λ (h : Option ℕ). Listed (own b cells) h sound.places) (sym committed.head) sound.listed);
        once = λ q h. let s = same q in let o = sound.once q (omega arith) in omega arith;
        beyond = λ q h. let s = same q in let o = sound.beyond q (omega arith) in omega arith;
      }

  -- open, rename and pause
  pub sound_noted : (call : Call) → Noting call → Committed b b' call root b.unused → Sound lawful m b' cells (after (with_tree leaf) model call)
  sound_noted (Open tag) n committed =
      sound_after leaf (Open tag) committed refl
      (held_append lawful m (own b cells) model (fresh tag leaf) sound.held (record { stands = tt; balanced = tt; truth = λ l e. tt }))
      (λ q. ap (sum (count q)) (trees_append model (fresh tag leaf)) ∙ sum-append (count q) (trees_of model) leaf ∙ omega arith)
  sound_noted (Rename tag new) n committed =
      sound_after leaf (Rename tag new) committed tt
      (held_altered lawful m (own b cells) tag (retagged new) (λ s h. record { stands = h.stands; balanced = h.balanced; truth = h.truth }) model sound.held)
      (λ q. ap (sum (count q)) (trees_altered tag (retagged new) (λ s. refl) model))
  sound_noted (Pause tag) n committed =
      sound_after leaf (Pause tag) committed tt
      (held_altered lawful m (own b cells) tag (restated Paused) (λ s h. record { stands = h.stands; balanced = h.balanced; truth = λ l e. let z : ◌≡◌ {A = ℕ} 0 1 = cc in absurd (omega arith) }) model sound.held)
      (λ q. ap (sum (count q)) (trees_altered tag (restated Paused) (λ s. refl) model))
  sound_noted _ n committed = absurd n
