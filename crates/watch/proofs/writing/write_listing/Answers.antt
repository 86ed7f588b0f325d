use Rattle.std.proofs.Common.{subst}
use Rattle.watch.specs.Streams.{Received, ReceivedPart}
use Rattle.watch.proofs.Streams.{Appends-then, part_before, part_after, received_kept, failed}
use Rattle.watch.proofs.Listed.{whole_parts}
use Rattle.watch.proofs.writing.write_listing.Goals as goal

pub returns-in_err-write_panel : goal.returns-in_err-write_panel
returns-in_err-write_panel g c =
    let part = part_before _ _ _ _ c.in_err-write_panel.ensures.received in
    record { received = failed _ _ _ _ c.from_residual.ensures.0 (subst (ReceivedPart _ _) (whole_parts c.args.script.now) part) }

pub returns-in_err-write_panel-2 : goal.returns-in_err-write_panel-2
returns-in_err-write_panel-2 g c =
    let part = part_after _ _ _ _ _ c.in_ok-write_panel.ensures.received c.in_err-write_panel-2.ensures.received in
    record { received = failed _ _ _ _ c.from_residual-in_err-write_panel-2.ensures.0 (subst (ReceivedPart _ _) (whole_parts c.args.script.now) part) }

pub returns : goal.returns
returns g c =
    let both = Appends-then _ _ _ _ _ c.in_ok-write_panel.ensures.received c.in_ok-write_panel-2.ensures.received in
    record { received = subst (Received _ _ c.flush.result) (whole_parts c.args.script.now) (received_kept _ _ _ _ _ both c.flush.ensures.bytes) }
