-- Chains of calls: each on the state that the one before it left.
use Rattle.std.specs.Prelude.{ℕ, List, [], ◌∷◌}
use Rattle.monoid.specs.Meaning.{Meaning}
use Rattle.plain.specs.declared.call.Call.{Call}
use Rattle.records.specs.declared.records.Records.{Records}
use Rattle.cells.specs.declared.cell.Cell.{Cell}
use Rattle.calls.specs.declared.outcome.Outcome.{Outcome}
use Rattle.calls.specs.Calls.{Called}

-- what calls are made on: the records of a book, the cells that it was lent, and the recogniser
pub record BookState (S E : Type 0) : Type 0 where
  pub records : Records
  pub cells : List (Cell E)
  pub recogniser : S

-- a call, what came of it, and the state that it left
pub record Turn (S E : Type 0) : Type 0 where
  pub call : Call
  pub outcome : Outcome
  pub left : BookState S E

-- the state that turns lead to
abbrev pub reached : {S E : Type 0} → BookState S E → List (Turn S E) → BookState S E
reached from [] = from
reached from (turn ∷ turns) = reached turn.left turns

module _ {S E : Type 0} (meaning : S → Meaning E) (orderly : S → Type 0) (tally : S → ℕ) where
  -- exactly what a call promises on any state
  abbrev pub Link : BookState S E → Turn S E → Type 0
  Link from turn = Called meaning orderly tally from.records turn.left.records from.cells turn.left.cells from.recogniser turn.left.recogniser turn.call turn.outcome

  -- each turn begins at the state that the one before it left
  abbrev pub Chain : BookState S E → List (Turn S E) → Type 0
  Chain from [] = Unit {0}
  Chain from (turn ∷ turns) = Link from turn × Chain turn.left turns
