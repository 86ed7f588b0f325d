-- What an edit owes and asks for, by the state of the sheet.
use Rattle.std.proofs.Common.{◌≡◌, ℕ, cond, refl, arith}
use Rattle.monoid.specs.Meaning.{Meaning}
use Rattle.plain.specs.declared.state.State.{State}
use Rattle.plain.specs.declared.state.State.TheVariants.{Settled, Paused}
use Rattle.plain.specs.Sheets.{is_paused}
use Rattle.cells.specs.Trees.{Tree}
use Rattle.cells.specs.Truth.{True}
use Rattle.cells.specs.Counts.{Spent}
use Rattle.cells.specs.Asking.{Due, cost}
use Rattle.changes.specs.Changes.{mode_in}

-- true products stay true on a settled sheet, and on a paused one nothing is owed
pub truth_in : {E : Type 0} (m : Meaning E) (Orderly : Type 0) (t u : Tree E) (s : State) → (Due (mode_in s) Orderly → True m t → True m u) → Orderly → (s ≡ Settled → True m t) → s ≡ Settled → True m u
truth_in m Orderly t u Settled truth order before settled = truth order (before refl)
truth_in m Orderly t u Paused truth order before settled = let z : ◌≡◌ {A = ℕ} 0 1 = cc in absurd (omega arith)

-- an edit of a paused sheet asks for none
pub cost_in : (s : State) (n told tells : ℕ) → Spent (cost (mode_in s) n) told tells → Spent (cond (is_paused s) 0 n) told tells
cost_in Settled n told tells h = h
cost_in Paused n told tells h = h
