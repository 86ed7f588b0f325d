use Rattle.std.proofs.Common.{◌≡◌, codes, sym, ap, arith}
use Rattle.std.proofs.lemmas.Grind.{elements}
use Rattle.script.specs.Commands.{command_of}
use Rattle.script.proofs.command.Command.from_word.Goals as goal

pub returns-in-rename : goal.returns-in-rename
returns-in-rename c = let e : c.args.word.now ≡ codes "rename" = grind (arith, elements) in record { value = sym (ap command_of e) }

pub returns-in-insert : goal.returns-in-insert
returns-in-insert c = let e : c.args.word.now ≡ codes "insert" = grind (arith, elements) in record { value = sym (ap command_of e) }

pub returns-in-strike : goal.returns-in-strike
returns-in-strike c = let e : c.args.word.now ≡ codes "strike" = grind (arith, elements) in record { value = sym (ap command_of e) }

pub returns-in-replace : goal.returns-in-replace
returns-in-replace c = let e : c.args.word.now ≡ codes "replace" = grind (arith, elements) in record { value = sym (ap command_of e) }
