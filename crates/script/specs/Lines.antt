-- The lines of a script: each ends at byte 10 or at the script's end, and a final byte 10 opens none.
use Rattle.std.specs.Prelude.{◌≡◌, ℕ, ◌<◌, List, [], ◌∷◌, length}
use Rattle.script.specs.Parts.{Bytes, upto, past, parted}

abbrev pub newline : ℕ
newline = 10

abbrev pub lines : Bytes → List Bytes
lines bytes = parted newline [] bytes

abbrev pub first_line : Bytes → Bytes
first_line bytes = upto newline bytes

-- what stands past the first line
abbrev pub other_lines : Bytes → Bytes
other_lines bytes = past newline bytes

-- a reader that showed a text shows the rest of it, past its first line
pub record Passed (text rest : Bytes) : Type 0 where
  pub after : rest ≡ other_lines text
  pub items : 0 < length text → lines text ≡ first_line text ∷ lines rest
  pub bound : 0 < length text → length rest < length text
