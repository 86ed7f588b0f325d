-- Bytes written into an output from a place on, and the room that is asked for.
use Rattle.std.specs.Prelude.{ℕ, ◌+◌, Bool, ◌++◌, length, take, drop, nat_le}
use Rattle.script.specs.Parts.{Bytes}

-- the output with the bytes in the place of what stood there from `at` on
abbrev pub overwrite : Bytes → ℕ → Bytes → Bytes
overwrite out at bytes = take at out ++ (bytes ++ drop (at + length bytes) out)

-- 96 bytes are free
abbrev pub has_room : ℕ → Bool
has_room free = nat_le 96 free
