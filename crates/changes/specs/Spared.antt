-- The stored products that a call leaves as they are.
use Rattle.std.specs.Prelude.{◌≡◌, ℕ, ◌-◌}
use Rattle.std.specs.List.{slice_get}
use Rattle.plain.specs.declared.call.Call.{Call}
use Rattle.plain.specs.Forms.{replaces, Effect, edits, form}
use Rattle.cells.specs.Trees.{Tree}
use Rattle.edits.specs.Replaces.{Replaced}
use Rattle.edits.specs.Products.{products, Holds}

-- a replacement leaves the tree its shape and places; it gives the row its kind, and changes the stored products of those rows
-- only whose stretch held the row
abbrev pub spares : {E : Type 0} → Effect → Tree E → Tree E → Type 0
spares (edits (replaces row kind)) t u = Replaced t (row - 1) kind u × ((j : ℕ) → (Holds t j (row - 1) → ⊥) → slice_get (products u) j ≡ slice_get (products t) j)
spares _ t u = Unit {0}

abbrev pub Spares : {E : Type 0} → Call → Tree E → Tree E → Type 0
Spares call t u = spares (form call).effect t u
