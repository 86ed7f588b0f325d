-- The plain book has no cells, so it never says that they are broken.
use Rattle.std.proofs.Common.{◌≡◌, ℕ, ◌<◌, Bool, true, false, List, [], ◌∷◌, map, Some, Option, ap, arith}
use Rattle.plain.specs.declared.call.Call.{Call}
use Rattle.plain.specs.declared.question.Question.{Question}
use Rattle.plain.specs.declared.question.Question.TheVariants.{Standing, Unused, FewerThanEight, Settled, Paused, RowIn, GapIn, RowsIn, RoomForOne, RoomForCopy}
use Rattle.plain.specs.Forms.{form}
use Rattle.plain.specs.declared.refusal.Refusal.{Refusal}
use Rattle.plain.specs.declared.refusal.Refusal.TheVariants.{BrokenCells}
use Rattle.plain.specs.Sheets.{Sheet}
use Rattle.plain.specs.Refusals.{Answer, refusal_number, number_of, or_else, first_no}
use Rattle.plain.specs.Questions.{reason_of, answer, answers, refusal_of}

-- a question below 9 before others
below : (answer : Bool) (reason : Refusal) (later : Option Refusal) → refusal_number reason < 9 → number_of later < 9 → number_of (or_else answer reason later) < 9
below true reason later h l = l
below false reason later h l = h

-- none of the answers is about cells
abbrev Cellless : List Answer → Type 0
Cellless [] = Unit {0}
Cellless (q ∷ qs) = (refusal_number q.1 < 9) × Cellless qs

number_below : (qs : List Answer) → Cellless qs → number_of (first_no qs) < 9
number_below [] all = omega arith
number_below (q ∷ qs) all = below q.0 q.1 (first_no qs) all.0 (number_below qs all.1)

-- nor is one to a question that a call may ask
few : (q : Question) → refusal_number (reason_of q) < 9
few (Standing tag) = omega arith
few (Unused tag) = omega arith
few FewerThanEight = omega arith
few (Settled tag) = omega arith
few (Paused tag) = omega arith
few (RowIn tag row) = omega arith
few (GapIn tag row) = omega arith
few (RowsIn tag first last) = omega arith
few RoomForOne = omega arith
few (RoomForCopy tag) = omega arith

module _ (capacity : ℕ) (sheets : List (Sheet ℕ)) where
  cellless : (asks : List Question) → Cellless (map (answer capacity sheets) asks)
  cellless [] = tt
  cellless (q ∷ asks) = (few q, cellless asks)

  pub unbroken : (call : Call) → refusal_of capacity sheets call ≡ Some BrokenCells → ⊥
  unbroken call is =
      let few_all = number_below (answers capacity sheets call) (omega arith, cellless (form call).asks) in
      let nine : number_of (refusal_of capacity sheets call) ≡ 9 = ap number_of is in
      omega arith
