-- The cells that no tree has: the places of them all, those in an array, and what an edit leaves of a list of them.
use Rattle.std.specs.Prelude.{◌≡◌, ℕ, ◌-◌, min, List, length, take, MatchResult, Result, Vec}
use Rattle.std.specs.List.{range_with_len}
use Rattle.edits_tests.specs.declared.fault.Fault.{Fault}
use Rattle.edits_tests.specs.declared.fault.Fault.TheVariants.{NoMemory}
use Rattle.edits_tests.specs.declared.sheets.Free.{Free}

-- the places of all 48 cells
abbrev pub every_place : List ℕ
every_place = range_with_len 0 48

-- a list of them all, or word that there was no memory for it
abbrev pub GivesEveryPlace : {A : Type 0} → Result (Vec ℕ A) Fault → Type 0
GivesEveryPlace result = MatchResult result (λ free. free.items ≡ every_place) (λ fault. fault ≡ NoMemory)

-- those in an array, the next to be taken last
abbrev pub places_of : Free → List ℕ
places_of free = take (min free.count 48) free.places

-- all but the last stand where they stood
abbrev pub KeepsAllButTheLast : List ℕ → List ℕ → Type 0
KeepsAllButTheLast old new = take (length old - 1) new ≡ take (length old - 1) old
