-- The number of each refusal; 0 stands for none.
use Rattle.std.specs.Prelude.{ℕ, Bool, true, false, List, [], ◌∷◌, Some, None, Option, Ok, Err, Result}
use Rattle.plain.specs.declared.refusal.Refusal.{Refusal}
use Rattle.plain.specs.declared.refusal.Refusal.TheVariants.{TagOutOfRange, NoSuchSheet, TagInUse, TooManySheets, NotSettled, NotPaused, RowOutOfRange, NoRoom, BrokenCells}

abbrev pub refusal_number : Refusal → ℕ
refusal_number TagOutOfRange = 1
refusal_number NoSuchSheet = 2
refusal_number TagInUse = 3
refusal_number TooManySheets = 4
refusal_number NotSettled = 5
refusal_number NotPaused = 6
refusal_number RowOutOfRange = 7
refusal_number NoRoom = 8
refusal_number BrokenCells = 9

-- 0 where a call is accepted
abbrev pub number_of : Option Refusal → ℕ
number_of None = 0
number_of (Some refusal) = refusal_number refusal

-- an answer: yes or no, and the refusal where it is no
abbrev pub Answer : Type 0
Answer = Bool × Refusal

abbrev pub or_else : Bool → Refusal → Option Refusal → Option Refusal
or_else true refusal later = later
or_else false refusal later = Some refusal

-- the first that is no decides
abbrev pub first_no : List Answer → Option Refusal
first_no [] = None
first_no (q ∷ qs) = or_else q.0 q.1 (first_no qs)

-- a refusal as the error of a call that may be refused
abbrev pub answered : Option Refusal → Result (Unit {0}) Refusal
answered None = Ok tt
answered (Some refusal) = Err refusal
