use Rattle.std.proofs.Common.{length, ap, arith}
use Rattle.std.proofs.lemmas.Bool.Decides.{nat_tests}
use Rattle.script.proofs.Spans.{length_seen}
use Rattle.script.proofs.cursor.Cursor.is_done.Goals as goal

pub returns : goal.returns
returns c =
    let script = c.args.script.now in
    let inside = c.inside-inside.result in
    let long = length_seen script inside c.inside-inside.ensures.within in
    let same = ap length c.inside-inside.ensures.shows in
    let order = c.inside-inside.ensures.within.order in
    record { value = grind (arith, nat_tests) }
