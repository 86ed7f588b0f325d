-- What holds of the listing of every script: one answer for each line, in order; a faulty line changes no sheet; and
-- what follows a line does not change its answer.
use Rattle.std.specs.Prelude.{◌≡◌, ℕ, ◌+◌, ◌^◌, ◌<◌, Bool, List, [], length, take, Err, slice_index_or}
use Rattle.monoid.specs.Words.{Word}
use Rattle.script.specs.Said.{said}
use Rattle.script.specs.Lines.{lines}
use Rattle.script.specs.Parts.{Bytes}
use Rattle.script.specs.declared.fault.Fault.{Fault}
use Rattle.listing.specs.declared.ending.Ending.TheVariants.{Complete}
use Rattle.listing.specs.Tells.{fault_read}
use Rattle.listing.specs.Listings.{answers_to, answered, book_through, fault_due, fitting, ending, listing}

pub record Listed (script : Bytes) : Type 0 where
  -- there are as many answers as lines
  pub one_each : (lamps : Word → List Bool) (capacity : ℕ) → length (answers_to lamps capacity script) ≡ length (lines script)
  -- and each is that to its line, with the book that the lines before it left
  pub in_order : (lamps : Word → List Bool) (capacity k : ℕ) → k < length (lines script)
      → slice_index_or (answers_to lamps capacity script) k [] ≡ answered lamps capacity (k + 1) (book_through capacity 0 [] (take k (lines script))) (said (k + 1) (slice_index_or (lines script) k []))
  -- from it the fault of a line that was not worked is read back, with its cause and its place; of a worked line, none
  pub told : (lamps : Word → List Bool) (capacity k : ℕ) → k < length (lines script) → k < 2 ^ 32
      → fault_read (slice_index_or (answers_to lamps capacity script) k []) ≡ fault_due capacity (k + 1) (book_through capacity 0 [] (take k (lines script))) (said (k + 1) (slice_index_or (lines script) k []))
  -- the lines of the output are the answers that found room, one line each
  pub written : (lamps : Word → List Bool) (capacity room : ℕ) → lines (listing room (answers_to lamps capacity script)).bytes ≡ fitting room (answers_to lamps capacity script)
  -- which are all, where the run is complete
  pub complete : (lamps : Word → List Bool) (capacity room : ℕ) → ending room (answers_to lamps capacity script) ≡ Complete → fitting room (answers_to lamps capacity script) ≡ answers_to lamps capacity script
  -- and the first of them in any case
  pub stopped : (lamps : Word → List Bool) (capacity room : ℕ) → fitting room (answers_to lamps capacity script) ≡ take (listing room (answers_to lamps capacity script)).lines (answers_to lamps capacity script)
  -- a faulty line changes no sheet
  pub kept : (capacity k : ℕ) (fault : Fault) → k < length (lines script) → said (k + 1) (slice_index_or (lines script) k []) ≡ Err fault
      → book_through capacity 0 [] (take (k + 1) (lines script)) ≡ book_through capacity 0 [] (take k (lines script))
  -- another script that agrees on its first lines has the same first answers
  pub agreed : (lamps : Word → List Bool) (capacity k : ℕ) (other : Bytes) → take k (lines script) ≡ take k (lines other) → take k (answers_to lamps capacity script) ≡ take k (answers_to lamps capacity other)
