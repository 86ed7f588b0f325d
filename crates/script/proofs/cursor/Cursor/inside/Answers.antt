use Rattle.std.proofs.Common.{◌≡◌, ap, ◌∙◌, arith}
use Rattle.script.specs.Seen.{seen, inside}
use Rattle.script.proofs.Spans.{between_inside}
use Rattle.script.proofs.cursor.Cursor.inside.Goals as goal

pub returns : goal.returns
returns c =
    let script = c.args.script.now in
    let cursor = c.args.self.now in
    let is : record { place = c.min-place.result; end = c.min-end.result } ≡ inside script cursor = cc in
    record {
      value = is;
      shows = ap (seen script) is ∙ between_inside script cursor.place cursor.end;
      within = record { order = omega arith; inside = omega arith };
    }
