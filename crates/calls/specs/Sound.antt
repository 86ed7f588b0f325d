-- When records and cells hold a book together. Where the recogniser is not lawful, nothing is said of stored products.
use Rattle.std.specs.Prelude.{◌≡◌, ℕ, ◌+◌, ◌<◌, ◌≤◌, Bool, true, List, [], ◌∷◌, take}
use Rattle.monoid.specs.Meaning.{Meaning}
use Rattle.plain.specs.declared.state.State.TheVariants.{Settled}
use Rattle.plain.specs.Sheets.{Sheet}
use Rattle.records.specs.declared.records.Records.{Records}
use Rattle.records.specs.Changes.{sheets_of}
use Rattle.cells.specs.declared.cell.Cell.{Cell}
use Rattle.cells.specs.Trees.{Tree, Balanced, count, Stands}
use Rattle.cells.specs.Truth.{True}
use Rattle.unused.specs.Listed.{times, Listed}
use Rattle.unused.specs.Freeing.{sum}
use Rattle.calls.specs.Models.{Model, recorded, trees_of}

-- the cells hold the tree of a sheet; under a lawful recogniser the products of a settled sheet are true
pub record Held {E : Type 0} (lawful : Bool) (m : Meaning E) (cells : List (Cell E)) (s : Sheet (Tree E)) : Type 0 where
  pub stands : Stands cells s.rows
  pub balanced : Balanced s.rows
  pub truth : lawful ≡ true → s.state ≡ Settled → True m s.rows

abbrev pub AllHeld : {E : Type 0} → Bool → Meaning E → List (Cell E) → Model E → Type 0
AllHeld lawful m cells [] = Unit {0}
AllHeld lawful m cells (s ∷ ss) = Held lawful m cells s × AllHeld lawful m cells ss

-- the cells within the capacity
abbrev pub own : {E : Type 0} → Records → List (Cell E) → List (Cell E)
own b cells = take b.capacity cells

-- the records say what the trees are, the cells hold them, and each cell within the capacity is in one tree, or unused, once
pub record Sound {E : Type 0} (lawful : Bool) (m : Meaning E) (b : Records) (cells : List (Cell E)) (model : Model E) : Type 0 where
  pub said : sheets_of b ≡ recorded model
  pub held : AllHeld lawful m (own b cells) model
  pub places : List ℕ
  pub listed : Listed (own b cells) b.unused places
  pub once : (q : ℕ) → q < b.capacity → sum (count q) (trees_of model) + times q places ≡ 1
  pub beyond : (q : ℕ) → b.capacity ≤ q → sum (count q) (trees_of model) + times q places ≡ 0
