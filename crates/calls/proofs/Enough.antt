-- The cells of a sound book are enough for its capacity: each place within it is in a tree, or unused.
use Rattle.std.proofs.Common.{◌≡◌, ℕ, zero, suc, ◌+◌, ◌<◌, ◌≤◌, Bool, List, ◌∷◌, [], length, take, ◌⊎◌, ⊎_elim, inl, inr, refl, arith, length-take, Option}
use Rattle.std.proofs.lemmas.Bool.{cases_eq}
use Rattle.monoid.specs.Meaning.{Meaning}
use Rattle.records.specs.declared.records.Records.{Records}
use Rattle.cells.specs.declared.cell.Cell.{Cell}
use Rattle.cells.specs.Trees.{count}
use Rattle.cells.proofs.Frame.{here_other}
use Rattle.cells.proofs.Lookup.{nth_within}
use Rattle.unused.specs.Listed.{times, Listed}
use Rattle.unused.specs.Freeing.{sum}
use Rattle.changes.proofs.Finding.{place-within}
use Rattle.calls.specs.Models.{Model, trees_of}
use Rattle.calls.specs.Sound.{AllHeld, Sound}

-- one of two numbers that are one together is not zero
either : (a b : ℕ) → 0 < a + b → (0 < a) ⊎ (0 < b)
either zero b h = inr (omega arith)
either (suc a) b h = inl (omega arith)

module _ {E : Type 0} (x : List (Cell E)) (q : ℕ) where
  -- an unused place is one of the cells
  listed_within : (first : Option ℕ) (is : List ℕ) → Listed x first is → 0 < times q is → q < length x
  listed_within first [] listed h = absurd (omega arith)
  listed_within first (i ∷ is) listed h =
      ⊎_elim
      (λ eq. let w = nth_within x i listed.0 listed.2 in omega arith)
      (λ ne. let o = here_other q i ne in listed_within listed.0.left is listed.3 (omega arith))
      (cases_eq q i)

  -- a place of a tree that is held is one of them too
  held_within : (lawful : Bool) (m : Meaning E) (ss : Model E) → AllHeld lawful m x ss → 0 < sum (count q) (trees_of ss) → q < length x
  held_within lawful m [] held h = absurd (omega arith)
  held_within lawful m (s ∷ ss) held h =
      ⊎_elim
      (place-within x s.rows q held.0.stands)
      (held_within lawful m ss held.1)
      (either (count q s.rows) (sum (count q) (trees_of ss)) h)

enough_by : {E : Type 0} {lawful : Bool} {m : Meaning E} {b : Records} {x : List (Cell E)} {model : Model E} → Sound lawful m b x model → (n : ℕ) → b.capacity ≡ n → n ≤ length x
enough_by {E} {lawful} {m} {b} {x} {model} sound zero is = omega arith
enough_by {E} {lawful} {m} {b} {x} {model} sound (suc k) is =
    let once = sound.once k (omega arith) in
    let cut = length-take b.capacity x in
    ⊎_elim
    (λ h. let w = held_within (take b.capacity x) k lawful m model sound.held h in omega arith)
    (λ h. let w = listed_within (take b.capacity x) k b.unused sound.places sound.listed h in omega arith)
    (either (sum (count k) (trees_of model)) (times k sound.places) (omega arith))

pub enough : {E : Type 0} {lawful : Bool} {m : Meaning E} {b : Records} {x : List (Cell E)} {model : Model E} → Sound lawful m b x model → b.capacity ≤ length x
enough {E} {lawful} {m} {b} {x} {model} sound = enough_by sound b.capacity refl
