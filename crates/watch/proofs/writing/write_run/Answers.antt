use Rattle.std.proofs.Common.{ap, ◌∙◌, subst}
use Rattle.watch.specs.Streams.{Received}
use Rattle.watch.specs.Whole.{panel_line}
use Rattle.watch.proofs.Listed.{told_parts}
use Rattle.watch.proofs.writing.write_run.Goals as goal

pub returns : goal.returns
returns g c =
    let first = c.as_bytes.ensures.value ∙ c.in_ok-first.ensures.bytes ∙ ap panel_line c.NUMBER.ensures in
    let last = c.as_bytes-2.ensures.value ∙ c.in_ok-last.ensures.bytes in
    let parts = told_parts g.P.Panel.NUMBER _ _ _ _ _ _ _ c.in_ok-number.ensures.tells first c.as_slice.ensures.value last in
    record { received = subst (Received _ _ c.write_parts.result) parts c.write_parts.ensures.received }
