-- Runs: any calls in any order on a book that was created, and what is promised of each of them and at each state.
use Rattle.std.specs.Prelude.{◌≡◌, ℕ, ◌+◌, ◌%◌, ◌^◌, min, Bool, true, List, [], ◌∷◌, ◌++◌, map, length, drop, sum_by, Some, None}
use Rattle.monoid.specs.Meaning.{Meaning}
use Rattle.plain.specs.declared.call.Call.{Call}
use Rattle.plain.specs.declared.call.Call.TheVariants.{Recalculate}
use Rattle.plain.specs.declared.refusal.Refusal.{Refusal}
use Rattle.plain.specs.Sheets.{rows_of}
use Rattle.plain.specs.Plain.{PlainBook, next}
use Rattle.records.specs.declared.records.Records.{Records}
use Rattle.cells.specs.declared.cell.Cell.{Cell}
use Rattle.cells.specs.Trees.{leaf}
use Rattle.cells.specs.Truth.{True}
use Rattle.calls.specs.declared.outcome.Outcome.{Outcome}
use Rattle.calls.specs.Models.{Model, plain_of}
use Rattle.calls.specs.Sound.{Sound}
use Rattle.calls.specs.Steps.{Answers, Bounded, Leaves}
use Rattle.calls.specs.Chains.{BookState, Turn, reached, Chain}

-- the plain book after calls
abbrev pub through : ℕ → PlainBook → List Call → PlainBook
through capacity book [] = book
through capacity book (call ∷ calls) = through capacity (next capacity book call) calls

-- the book of a state is sound of these trees and of no others, and its tags, states and rows are the plain book's
pub record Stands {S E : Type 0} (lawful : Bool) (m : Meaning E) (book : PlainBook) (state : BookState S E) (model : Model E) : Type 0 where
  pub sound : Sound lawful m state.records state.cells model
  pub only : (other : Model E) → Sound lawful m state.records state.cells other → other ≡ model
  pub book_is : plain_of model ≡ book

-- the three promises of one turn: its answer and lamps; its count; and what is kept, with what declining and recalculating leave
pub record Promised {S E : Type 0} (lawful : Bool) (m : Meaning E) (capacity : ℕ) (book : PlainBook) (from : BookState S E) (before : Model E) (turn : Turn S E) (after : Model E) : Type 0 where
  pub answers : Answers lawful m capacity book turn.call turn.outcome
  pub bounded : Bounded before turn.call turn.outcome after
  pub leaves : Leaves before turn.call turn.outcome after
  -- records, cells and recogniser, by a call that is declined
  pub declined : (reason : Refusal) → turn.outcome.refusal ≡ Some reason → turn.left ≡ from
  -- every stored product of a sheet that was recalculated is the image of its stretch
  pub renewed : lawful ≡ true → turn.outcome.refusal ≡ None → (tag : ℕ) → turn.call ≡ Recalculate tag → True m (rows_of leaf tag after)

module _ {S E : Type 0} (lawful : Bool) (m : Meaning E) (capacity : ℕ) where
  -- each turn keeps the promises, and the state that it leaves stands for the plain book after as many calls
  abbrev pub AtEach : PlainBook → BookState S E → Model E → List (Turn S E) → Type 0
  AtEach book from before [] = Unit {0}
  AtEach book from before (turn ∷ turns) =
      (after : Model E)
      × Promised lawful m capacity book from before turn after
      × Stands lawful m (next capacity book turn.call) turn.left after
      × AtEach (next capacity book turn.call) turn.left after turns

-- what creation leaves over cells: a sound book with no sheet, whose capacity is the number of cells, 4,096 at the most; cells past
-- it are untouched
pub record Created {E : Type 0} (x : List (Cell E)) (b : Records) (y : List (Cell E)) : Type 0 where
  pub capacity : b.capacity ≡ min (length x) 4096
  pub outside : drop b.capacity y ≡ drop b.capacity x
  pub sound : (lawful : Bool) (m : Meaning E) → Sound lawful m b y []

module _ {S E : Type 0} (meaning : S → Meaning E) (orderly : S → Type 0) (tally : S → ℕ) where
  -- a run from the state that creation left: a chain, whatever the recogniser is, that keeps the promises at each turn; where the
  -- recogniser is lawful, those of lamps and of products too
  pub record Ran (first : BookState S E) (turns : List (Turn S E)) : Type 0 where
    pub created : (lawful : Bool) (m : Meaning E) → Sound lawful m first.records first.cells []
    pub chain : Chain meaning orderly tally first turns
    pub promised : (lawful : Bool) → (lawful ≡ true → orderly first.recogniser) → AtEach lawful (meaning first.recogniser) first.records.capacity [] first [] turns

  -- a run that led to the state before the call goes on, its turns as they are, with one turn more
  abbrev pub GoesOn : Records → Records → List (Cell E) → List (Cell E) → S → S → Call → Outcome → Type 0
  GoesOn b b' x y s s' call r =
      (first : BookState S E) (turns : List (Turn S E))
      → Ran first turns
      → reached first turns ≡ record { records = b; cells = x; recogniser = s }
      → Ran first (turns ++ (record { call = call; outcome = r; left = record { records = b'; cells = y; recogniser = s' } } ∷ []))

  -- calls that were worked, with these outcomes, on a book of their own over the cells x, with the recogniser s: the records b, the
  -- cells y and the recogniser s' are what the last of them left
  pub record WorkedThrough (x y : List (Cell E)) (s s' : S) (b : Records) (calls : List Call) (outcomes : List Outcome) : Type 0 where
    pub first : BookState S E
    pub created : Created x first.records first.cells
    pub recogniser_is : first.recogniser ≡ s
    pub turns : List (Turn S E)
    pub calls_are : map (λ (turn : Turn S E). turn.call) turns ≡ calls
    pub outcomes_are : map (λ (turn : Turn S E). turn.outcome) turns ≡ outcomes
    pub ran : Ran first turns
    pub reached_is : reached first turns ≡ record { records = b; cells = y; recogniser = s' }
    -- over all of them: the capacity is that of creation, cells past it are untouched, the recogniser means what it meant, and it was
    -- asked for as many products as the outcomes count
    pub capacity : b.capacity ≡ min (length x) 4096
    pub outside : drop b.capacity y ≡ drop b.capacity x
    pub same : meaning s' ≡ meaning s
    pub order : orderly s → orderly s'
    pub counted : tally s' ≡ (tally s + sum_by (λ (r : Outcome). r.count) outcomes) % 2 ^ 64
