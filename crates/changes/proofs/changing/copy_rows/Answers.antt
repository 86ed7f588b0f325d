use Rattle.std.proofs.Common.{None, Some}
use Rattle.whole.specs.Copying.{Copies}
use Rattle.changes.proofs.Naming.{at_unused}
use Rattle.changes.proofs.Copying.{copy_no_room, copy_made}
use Rattle.changes.proofs.changing.copy_rows.Goals as goal

pub returns-in_err-copied : goal.returns-in_err-copied
returns-in_err-copied g c =
    let x = c.args.cells.now in
    let y = c.copy.new.cells in
    let copies = at_unused (λ v. Copies x y v c.args.part.root None) c.args.part c.unused.result c.unused.ensures.value c.in_err-copied.ensures.value in
    record { value = λ m told tag new. copy_no_room m told x y c.args.part tag new c.from_residual.result copies }

pub returns : goal.returns
returns g c =
    let x = c.args.cells.now in
    let y = c.copy.new.cells in
    let copies = at_unused (λ v. Copies x y v c.args.part.root (Some c.in_ok-copied.copied)) c.args.part c.unused.result c.unused.ensures.value c.in_ok-copied.ensures.value in
    record { value = λ m told tag new. copy_made m told x y c.args.part tag new c.in_ok-copied.copied c.new.result copies c.new.ensures.value }
