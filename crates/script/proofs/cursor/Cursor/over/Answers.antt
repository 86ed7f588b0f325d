use Rattle.std.proofs.Common.{◌-◌, length, refl, arith}
use Rattle.std.proofs.lemmas.List.{take_all}
use Rattle.script.proofs.Joining.{whole_script}
use Rattle.script.proofs.cursor.Cursor.over.Goals as goal

pub returns : goal.returns
returns c =
    let script = c.args.script.now in
    record { value = refl; shows = take_all (length script - 0) script (omega arith); lines = whole_script script }
