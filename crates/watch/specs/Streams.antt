-- What a reader gave and what a writer received, as far as their bytes are known, also where a call failed.
use Rattle.std.specs.Prelude.{◌≡◌, ℕ, ◌≤◌, ◌<◌, length, take, Ok, Err, IfSome, MatchResult, Option, Result, Vec}
use Rattle.std.specs.Io.KnownBytes.{Appends, Consumes, IsAtEnd, Keeps}
use Rattle.script.specs.Parts.{Bytes}
use Rattle.watch.specs.Whole.{whole_listing}
use Rattle.watch.specs.declared.program.Failure.{Failure}
use Rattle.watch.specs.declared.program.Failure.TheVariants.{Unread, Unwritten}

-- a writer received some first bytes of these
abbrev pub ReceivedPart : Option Bytes → Option Bytes → Bytes → Type 0
ReceivedPart old new bytes = (n : ℕ) × Appends old new (take n bytes)

-- it received all of them; or, where that failed, some first ones
abbrev pub Received : {X E : Type 0} → Option Bytes → Option Bytes → Result X E → Bytes → Type 0
Received old new result bytes = MatchResult result (λ _. Appends old new bytes) (λ _. ReceivedPart old new bytes)

-- a reader gave some bytes, and no more than so many
abbrev pub Gave : Option Bytes → Option Bytes → ℕ → Type 0
Gave old new most = (bytes : Bytes) × Consumes old new bytes × (length bytes ≤ most)

-- the first bytes of a buffer are those that a reader gave: all that it had, where the buffer is not full of them
pub record FilledBy (old new : Option Bytes) (count : ℕ) (buffer : Bytes) : Type 0 where
  pub within : count ≤ length buffer
  pub given : Consumes old new (take count buffer)
  pub all : count < length buffer → IsAtEnd new

abbrev pub Filled : {E : Type 0} → Option Bytes → Option Bytes → Result ℕ E → Bytes → Type 0
Filled old new result buffer = MatchResult result (λ count. FilledBy old new count buffer) (λ _. Gave old new (length buffer))

-- the bytes that are read of a reader, so many at the most: its first ones, and it gave no others
pub record FirstOf (old new : Option Bytes) (most : ℕ) (bytes : Bytes) : Type 0 where
  pub first : IfSome old (λ all. bytes ≡ take most all)
  pub given : Consumes old new bytes
  pub bound : length bytes ≤ most

abbrev pub ReadAtMost : {A E : Type 0} → Option Bytes → Option Bytes → ℕ → Result (Vec ℕ A) E → Type 0
ReadAtMost old new most result = MatchResult result (λ read. FirstOf old new most read.items) (λ _. Gave old new most)

-- a script that is read: of more than 16,384 bytes the first 16,385
pub record ScriptOf (old new : Option Bytes) (script : Bytes) : Type 0 where
  pub read : FirstOf old new 16385 script
  -- which is enough: its listing is that of all bytes that the reader had
  pub listed : IfSome old (λ all. whole_listing script ≡ whole_listing all)

abbrev pub ScriptRead : {A E : Type 0} → Option Bytes → Option Bytes → Result (Vec ℕ A) E → Type 0
ScriptRead old new result = MatchResult result (λ script. ScriptOf old new script.items) (λ _. Gave old new 16385)

-- what a reader gave, what a writer held before and after, and how it ended: the listing of the script is written, or
-- nothing where the script was not read, or some first bytes where the listing could not be written
abbrev pub Served : {X : Type 0} → Option Bytes → Option Bytes → Option Bytes → Option Bytes → Result X Failure → Type 0
Served old new held holds (Ok done) = (script : Bytes) × ScriptOf old new script × Appends held holds (whole_listing script)
Served old new held holds (Err (Unread error)) = Gave old new 16385 × Keeps held holds
Served old new held holds (Err (Unwritten error)) = (script : Bytes) × ScriptOf old new script × ReceivedPart held holds (whole_listing script)
