-- The commands of a script: their names, and the fields that each wants.
use Rattle.std.specs.Prelude.{ℕ, ◌+◌, cond, List, [], ◌∷◌, length, Some, None, codes, Option}
use Rattle.std.specs.Str.{bytes_eq}
use Rattle.script.specs.declared.command.Command.{Command}
use Rattle.script.specs.declared.command.Command.TheVariants.{Open, Copy, Rename, Close, Insert, Strike, Replace, Whole, Range}
use Rattle.script.specs.declared.field.Shape.{Shape}
use Rattle.script.specs.declared.field.Shape.TheVariants.{Number, Letter}
use Rattle.script.specs.Parts.{Bytes}

abbrev pub name_of : Command → Bytes
name_of Open = codes "open"
name_of Copy = codes "copy"
name_of Rename = codes "rename"
name_of Close = codes "close"
name_of Insert = codes "insert"
name_of Strike = codes "strike"
name_of Replace = codes "replace"
name_of Whole = codes "whole"
name_of Range = codes "range"

abbrev pub every_command : List Command
every_command = Open ∷ (Copy ∷ (Rename ∷ (Close ∷ (Insert ∷ (Strike ∷ (Replace ∷ (Whole ∷ (Range ∷ []))))))))

-- the first of the commands whose name it is
abbrev pub command_among : List Command → Bytes → Option Command
command_among [] word = None
command_among (c ∷ cs) word = cond (bytes_eq word (name_of c)) (Some c) (command_among cs word)

abbrev pub command_of : Bytes → Option Command
command_of word = command_among every_command word

-- what the fields past the command are to be
abbrev pub shapes : Command → List Shape
shapes Open = Number ∷ []
shapes Copy = Number ∷ (Number ∷ [])
shapes Rename = Number ∷ (Number ∷ [])
shapes Close = Number ∷ []
shapes Insert = Number ∷ (Number ∷ (Letter ∷ []))
shapes Strike = Number ∷ (Number ∷ [])
shapes Replace = Number ∷ (Number ∷ (Letter ∷ []))
shapes Whole = Number ∷ []
shapes Range = Number ∷ (Number ∷ (Number ∷ []))

-- how many fields a command's line has, the command among them
abbrev pub field_count : Command → ℕ
field_count c = length (shapes c) + 1
