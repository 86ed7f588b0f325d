-- What a call does to the cells within the capacity, where it changes or makes the tree of one sheet.
use Rattle.std.specs.Prelude.{◌≡◌, ℕ, ◌+◌, ◌≤◌, max, List, [], length, Some, Option}
use Rattle.monoid.specs.Meaning.{Meaning}
use Rattle.monoid.specs.Words.{Word}
use Rattle.plain.specs.declared.call.Call.{Call}
use Rattle.plain.specs.Forms.{inserts, strikes, replaces, Effect, opens, copies, closes, edits, pauses, recalculates, form}
use Rattle.plain.specs.declared.state.State.{State}
use Rattle.plain.specs.declared.state.State.TheVariants.{Settled, Paused}
use Rattle.plain.specs.Plain.{words}
use Rattle.cells.specs.declared.cell.Cell.{Cell}
use Rattle.cells.specs.declared.mode.Mode.{Mode}
use Rattle.cells.specs.declared.mode.Mode.TheVariants.{Asking, Quiet}
use Rattle.cells.specs.Trees.{Tree, leaf, link, rows, size, Balanced, count, Stands}
use Rattle.cells.specs.Truth.{True}
use Rattle.cells.specs.Counts.{Spent}
use Rattle.unused.specs.Listed.{times, Listed}
use Rattle.changes.specs.declared.change.Part.{Part}
use Rattle.changes.specs.declared.change.Change.{Change}
use Rattle.changes.specs.Costs.{dearest_in}
use Rattle.changes.specs.Spared.{Spares}

-- the tree t has become u, the unused cells are others, no place is lost or in two trees, and every tree apart from them stands as it stood
pub record Changed {E : Type 0} (x y : List (Cell E)) (t u : Tree E) (is is' : List ℕ) (first : Option ℕ) : Type 0 where
  pub stands : Stands y u
  pub balanced : Balanced u
  pub listed : Listed y first is'
  pub counts : (q : ℕ) → count q u + times q is' ≡ count q t + times q is
  pub others : (o : Tree E) → ((q : ℕ) → count q o + (count q t + times q is) ≤ 1) → Stands x o → Stands y o

-- the tree of a sheet and the unused cells, as a call finds them
pub record Found {E : Type 0} (x : List (Cell E)) (part : Part) (t : Tree E) (is : List ℕ) : Type 0 where
  pub stands : Stands x t
  pub balanced : Balanced t
  pub top : part.root ≡ link t
  pub few : size t ≤ 4096
  pub listed : Listed x part.unused is
  pub apart : (q : ℕ) → count q t + times q is ≤ 1

-- the rows that are edited are among n, and the cells that are taken among those unused; no tree is changed by another call
abbrev pub askable : Effect → ℕ → ℕ → Type 0
askable (copies new) n free = n ≤ free
askable closes n free = Unit {0}
askable (edits (inserts row kind)) n free = (1 ≤ row) × (row ≤ n + 1) × (1 ≤ free)
askable (edits (strikes row)) n free = (1 ≤ row) × (row ≤ n)
askable (edits (replaces row kind)) n free = (1 ≤ row) × (row ≤ n)
askable recalculates n free = Unit {0}
askable _ n free = ⊥

abbrev pub Askable : Call → ℕ → ℕ → Type 0
Askable call n free = askable (form call).effect n free

-- the tree that becomes another one: a copy is made where there was none
abbrev pub tree_before : {E : Type 0} → Effect → Tree E → Tree E
tree_before (copies new) t = leaf
tree_before _ t = t

abbrev pub was : {E : Type 0} → Call → Tree E → Tree E
was call t = tree_before (form call).effect t

-- an edit of a settled sheet asks for the products that it makes stale
abbrev pub mode_in : State → Mode
mode_in Settled = Asking
mode_in Paused = Quiet

-- the rows of the sheet that is changed or made, afterwards; none of one that is closed
abbrev pub word_left : Effect → Word → Word
word_left opens w = words.none
word_left (copies new) w = words.copy w
word_left closes w = []
word_left (edits e) w = words.edit e w
word_left recalculates w = words.renew w
word_left _ w = w

abbrev pub word_after : Call → Word → Word
word_after call w = word_left (form call).effect w

-- the state of the sheet that is changed or made, afterwards
abbrev pub state_left : Effect → State → State
state_left opens s = Settled
state_left pauses s = Paused
state_left recalculates s = Settled
state_left _ s = s

abbrev pub state_after : Call → State → State
state_after call s = state_left (form call).effect s

-- what a call has made of the tree t and the unused cells
pub record ChangeMade {E : Type 0} (m : Meaning E) (Orderly : Type 0) (told tells : ℕ) (x y : List (Cell E)) (part : Part) (call : Call) (t : Tree E) (is : List ℕ) (out : Option Change) : Type 0 where
  pub tree : Tree E
  pub first : Option ℕ
  pub places : List ℕ
  pub given : out ≡ Some (record { root = link tree; unused = first })
  pub changed : Changed x y (was call t) tree is places first
  pub word : rows tree ≡ word_after call (rows t)
  pub truth : Orderly → (part.state ≡ Settled → True m t) → state_after call part.state ≡ Settled → True m tree
  pub cost : Spent (dearest_in part.state call (max (size t) (size tree))) told tells
  pub spares : Spares call t tree

abbrev pub ChangesCells : {E : Type 0} → Meaning E → Type 0 → ℕ → ℕ → List (Cell E) → List (Cell E) → Part → Call → Option Change → Type 0
ChangesCells {E} m Orderly told tells x y part call out = (t : Tree E) (is : List ℕ) → Found x part t is → Askable call (size t) (length is) → ChangeMade m Orderly told tells x y part call t is out

-- the same with what is left of the recogniser that was asked: it means what it meant, and is in order still
pub record CallChanges {S E : Type 0} (meaning : S → Meaning E) (orderly : S → Type 0) (tally : S → ℕ) (before after : S) (x y : List (Cell E)) (part : Part) (call : Call) (out : Option Change) : Type 0 where
  pub value : ChangesCells (meaning before) (orderly before) (tally before) (tally after) x y part call out
  pub same : meaning after ≡ meaning before
  pub order : orderly before → orderly after
