-- A listing, and the calls that lines say, with one line more.
use Rattle.std.proofs.Common.{◌≡◌, ℕ, ◌+◌, ◌-◌, true, List, [], ◌∷◌, ◌++◌, length, Ok, Err, Result, refl, ap, ◌∙◌, arith}
use Rattle.std.proofs.lemmas.Bool.{cond-true}
use Rattle.plain.specs.Plain.{PlainBook}
use Rattle.plain.specs.declared.call.Call.{Call}
use Rattle.calls.specs.Runs.{through}
use Rattle.script.specs.Said.{said}
use Rattle.script.specs.Parts.{Bytes}
use Rattle.script.specs.declared.fault.Fault.{Fault}
use Rattle.listing.specs.Answers.{ended}
use Rattle.listing.specs.Listings.{book_after, book_through, fitting, ending}
use Rattle.listing.specs.Outputs.{has_room}
use Rattle.listing.specs.declared.ending.Ending.TheVariants.{OutputFull}
use Rattle.runs.specs.Scripted.{before_all, calls_said}

-- the book through what one line says, and then through other calls
book_after-said : (capacity : ℕ) (book : PlainBook) (r : Result Call Fault) (calls : List Call) → through capacity book (before_all r calls) ≡ through capacity (book_after capacity book r) calls
book_after-said capacity book (Ok call) calls = refl
book_after-said capacity book (Err e) calls = refl

-- the book through the calls that lines say is the book through the lines
pub through-said : (capacity done : ℕ) (book : PlainBook) (ls : List Bytes) → through capacity book (calls_said done ls) ≡ book_through capacity done book ls
through-said capacity done book [] = refl
through-said capacity done book (l ∷ ls) =
    book_after-said capacity book (said (done + 1) l) (calls_said (done + 1) ls)
    ∙ through-said capacity (done + 1) (book_after capacity book (said (done + 1) l)) ls

-- calls before others may be joined to more in either order
before_all-append : (r : Result Call Fault) (calls more : List Call) → before_all r (calls ++ more) ≡ before_all r calls ++ more
before_all-append (Ok call) calls more = refl
before_all-append (Err e) calls more = refl

-- the calls of one line more
pub calls_more : (done n : ℕ) (ls : List Bytes) (l : Bytes) → n ≡ done + (length ls + 1) → calls_said done (ls ++ (l ∷ [])) ≡ calls_said done ls ++ before_all (said n l) []
calls_more done n [] l is = let first : done + 1 ≡ n = omega arith in ap (λ k. before_all (said k l) []) first
calls_more done n (x ∷ ls) l is =
    ap (before_all (said (done + 1) x)) (calls_more (done + 1) n ls l (omega arith))
    ∙ before_all-append (said (done + 1) x) (calls_said (done + 1) ls) (before_all (said n l) [])

-- the book after one line more
pub book_more : (capacity done n : ℕ) (book : PlainBook) (ls : List Bytes) (l : Bytes) → n ≡ done + (length ls + 1) → book_through capacity done book (ls ++ (l ∷ [])) ≡ book_after capacity (book_through capacity done book ls) (said n l)
book_more capacity done n book [] l is = let first : done + 1 ≡ n = omega arith in ap (λ k. book_after capacity book (said k l)) first
book_more capacity done n book (x ∷ ls) l is = book_more capacity (done + 1) n (book_after capacity book (said (done + 1) x)) ls l (omega arith)

module _ (room at next : ℕ) (text : Bytes) (texts : List Bytes) where
  -- where there is room, one text more is written, and the rest begins past it
  pub fitting_more : has_room (room - at) ≡ true → next ≡ at + length (ended text) → fitting (room - at) (text ∷ texts) ≡ text ∷ fitting (room - next) texts
  fitting_more free is =
      let left : (room - at) - length (ended text) ≡ room - next = omega arith in
      cond-true (has_room (room - at)) (text ∷ fitting ((room - at) - length (ended text)) texts) [] free ∙ ap (λ k. text ∷ fitting k texts) left

  -- and the run ends as it does from there
  pub ending_more : has_room (room - at) ≡ true → next ≡ at + length (ended text) → ending (room - at) (text ∷ texts) ≡ ending (room - next) texts
  ending_more free is =
      let left : (room - at) - length (ended text) ≡ room - next = omega arith in
      cond-true (has_room (room - at)) (ending ((room - at) - length (ended text)) texts) OutputFull free ∙ ap (λ k. ending k texts) left
