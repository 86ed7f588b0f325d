use Rattle.watch.proofs.Streams.{part_before, part_after, received_then, failed}
use Rattle.watch.proofs.writing.write_parts.Goals as goal

pub returns-in_err-write_bytes : goal.returns-in_err-write_bytes
returns-in_err-write_bytes g c =
    record { received = failed _ _ _ _ c.from_residual.ensures.0 (part_before _ _ _ _ c.in_err-write_bytes.ensures.received) }

pub returns-in_err-write_bytes-2 : goal.returns-in_err-write_bytes-2
returns-in_err-write_bytes-2 g c =
    record { received = failed _ _ _ _ c.from_residual-in_err-write_bytes-2.ensures.0 (part_after _ _ _ _ _ c.in_ok-write_bytes.ensures.received (part_before _ _ _ _ c.in_err-write_bytes-2.ensures.received)) }

pub returns : goal.returns
returns g c =
    record { received = received_then _ _ _ _ _ _ c.in_ok-write_bytes.ensures.received (received_then _ _ _ _ _ _ c.in_ok-write_bytes-2.ensures.received c.write_bytes-3.ensures.received) }
