-- What a reader shows of a script: the bytes from its place to its end.
use Rattle.std.specs.Prelude.{ℕ, ◌+◌, ◌≤◌, min, cond, length, nat_lt}
use Rattle.std.specs.List.{between}
use Rattle.script.specs.declared.cursor.Cursor.{Cursor}
use Rattle.script.specs.Parts.{Bytes}

abbrev pub seen : Bytes → Cursor → Bytes
seen script cursor = between cursor.place cursor.end script

-- the cursor that shows the whole script
abbrev pub over : Bytes → Cursor
over script = record { place = 0; end = length script }

-- the cursor lies in the script
pub record Within (script : Bytes) (cursor : Cursor) : Type 0 where
  pub order : cursor.place ≤ cursor.end
  pub inside : cursor.end ≤ length script

-- the cursor brought into the script
abbrev pub inside : Bytes → Cursor → Cursor
inside script cursor = record { place = min cursor.place (min cursor.end (length script)); end = min cursor.end (length script) }

-- the place past a mark at `stop`; the end, where `stop` is the end
abbrev pub following : ℕ → ℕ → ℕ
following stop end = cond (nat_lt stop end) (stop + 1) end

-- the cursor past a line that stops at `stop`, with the end that it had
abbrev pub behind : ℕ → ℕ → Cursor
behind stop end = record { place = following stop end; end = end }
