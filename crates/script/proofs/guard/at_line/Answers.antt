use Rattle.std.proofs.Common.{◌≡◌, ℕ, ◌+◌, ◌≤◌, length, take, drop, ap, ◌∙◌, arith}
use Rattle.std.proofs.lemmas.List.Edits.{length-between}
use Rattle.std.specs.List.{between}
use Rattle.script.specs.Lines.{first_line, other_lines}
use Rattle.script.specs.Parts.{Bytes}
use Rattle.script.proofs.Parting.{mark_place, take-mark_place, drop-mark_place}
use Rattle.script.proofs.Spans.{between_behind, between_front, between_past_byte}
use Rattle.script.proofs.guard.at_line.Goals as goal

pub returns : goal.returns
returns c =
    let script : Bytes = c.args.script.now in
    let cursor = c.args.cursor.now in
    let inside = c.inside-inside.result in
    let within = c.inside-inside.ensures.within in
    let shows = c.inside-inside.ensures.shows in
    let text : Bytes = between inside.place inside.end script in
    let n : ℕ = c.line_length.result in
    let is : n ≡ mark_place 10 text = c.line_length.ensures.value in
    let bound : n ≤ length text = c.line_length.ensures.bound in
    let stop : inside.place + n ≤ inside.end = omega (arith, length-between script inside.place inside.end within.inside, within.order) in
    record {
      within = record { order = omega arith; inside = omega (arith, stop, within.inside) };
      line = between_front script inside.place inside.end n within.inside bound ∙ ap (λ k. take k text) is ∙ take-mark_place 10 text ∙ ap first_line shows;
      rest = between_behind script (inside.place + n) cursor.end inside.end (ap (λ k. k.end) c.inside-inside.ensures.value) stop
          ∙ between_past_byte script inside.place inside.end n within.inside bound within.order
          ∙ ap (λ k. drop (k + 1) text) is ∙ drop-mark_place 10 text ∙ ap other_lines shows;
    }
