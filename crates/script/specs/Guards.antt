-- What a guard shows of a script for as long as it lives, and the cursor that it leaves.
use Rattle.script.specs.declared.cursor.Cursor.{Cursor}
use Rattle.script.specs.declared.guard.LineGuard.{LineGuard}
use Rattle.script.specs.Parts.{Bytes}
use Rattle.script.specs.Seen.{seen, behind}

abbrev pub shown : Bytes → LineGuard → Bytes
shown script guard = seen script guard.cursor.now

-- past the line that it showed, with the end that there was before
abbrev pub left : LineGuard → Cursor
left guard = behind guard.cursor.now.end guard.old_end
