-- What holds of the fields of every line and of the lines of every script: none holds what parts them, and together they
-- are the whole.
use Rattle.std.specs.Prelude.{◌≡◌, true}
use Rattle.std.specs.List.{list_all}
use Rattle.script.specs.Parts.{Bytes, is_free_of, joined, ended_by, closed}
use Rattle.script.specs.Lines.{newline, lines}
use Rattle.script.specs.Fields.{comma, fields}

pub record WholeLine (line : Bytes) : Type 0 where
  -- no field holds a comma
  pub apart : list_all (is_free_of comma) (fields line) ≡ true
  -- the fields with commas between them are the line
  pub together : joined comma (fields line) ≡ line

pub record WholeScript (script : Bytes) : Type 0 where
  -- no line holds byte 10
  pub apart : list_all (is_free_of newline) (lines script) ≡ true
  -- the lines with a byte 10 behind each are the script, with one behind its last line too
  pub together : ended_by newline (lines script) ≡ closed newline script
