-- A call written as a line: its command, its numbers in decimal and its kind letter, with commas between them.
use Rattle.std.specs.Prelude.{ℕ, ◌≤◌, List, [], ◌∷◌, decimal}
use Rattle.rows.specs.Letters.{letter_of}
use Rattle.plain.specs.declared.call.Call.{Call}
use Rattle.plain.specs.declared.call.Call.TheVariants.{Open, Copy, Rename, Close, Insert, Strike, Replace, Whole, Range}
use Rattle.script.specs.declared.command.Command.TheVariants as command
use Rattle.script.specs.Parts.{Bytes, joined}
use Rattle.script.specs.Fields.{comma}
use Rattle.script.specs.Commands.{name_of}

-- the fields; a pause and a recalculation have no line
abbrev pub words : Call → List Bytes
words (Open tag) = name_of command.Open ∷ (decimal tag ∷ [])
words (Copy tag new) = name_of command.Copy ∷ (decimal tag ∷ (decimal new ∷ []))
words (Rename tag new) = name_of command.Rename ∷ (decimal tag ∷ (decimal new ∷ []))
words (Close tag) = name_of command.Close ∷ (decimal tag ∷ [])
words (Insert tag row kind) = name_of command.Insert ∷ (decimal tag ∷ (decimal row ∷ ((letter_of kind ∷ []) ∷ [])))
words (Strike tag row) = name_of command.Strike ∷ (decimal tag ∷ (decimal row ∷ []))
words (Replace tag row kind) = name_of command.Replace ∷ (decimal tag ∷ (decimal row ∷ ((letter_of kind ∷ []) ∷ [])))
words (Whole tag) = name_of command.Whole ∷ (decimal tag ∷ [])
words (Range tag first last) = name_of command.Range ∷ (decimal tag ∷ (decimal first ∷ (decimal last ∷ [])))
words _ = []

abbrev pub written : Call → Bytes
written call = joined comma (words call)

-- a number that a field can say, in five digits
abbrev pub Short : ℕ → Type 0
Short n = n ≤ 99999

-- the calls that a line can say
abbrev pub Sayable : Call → Type 0
Sayable (Open tag) = Short tag
Sayable (Copy tag new) = Short tag × Short new
Sayable (Rename tag new) = Short tag × Short new
Sayable (Close tag) = Short tag
Sayable (Insert tag row kind) = Short tag × Short row
Sayable (Strike tag row) = Short tag × Short row
Sayable (Replace tag row kind) = Short tag × Short row
Sayable (Whole tag) = Short tag
Sayable (Range tag first last) = Short tag × (Short first × Short last)
Sayable _ = ⊥
