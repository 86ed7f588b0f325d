use Rattle.std.proofs.Common.{None, Some}
use Rattle.unused.specs.Freeing.{Frees}
use Rattle.changes.proofs.Naming.{at_unused}
use Rattle.changes.proofs.Freeing.{free_no_tree, free_made}
use Rattle.changes.proofs.changing.free_rows.Goals as goal

pub returns-in_err-unused : goal.returns-in_err-unused
returns-in_err-unused g c =
    let x = c.args.cells.now in
    let y = c.free_tree.new.cells in
    let frees = at_unused (λ v. Frees x y v c.args.part.root None) c.args.part c.unused.result c.unused.ensures.value c.in_err-unused.ensures.value in
    record { value = λ m told tag. free_no_tree m told x y c.args.part tag c.from_residual.result frees }

pub returns : goal.returns
returns g c =
    let x = c.args.cells.now in
    let y = c.free_tree.new.cells in
    let frees = at_unused (λ v. Frees x y v c.args.part.root (Some c.in_ok-unused.unused)) c.args.part c.unused.result c.unused.ensures.value c.in_ok-unused.ensures.value in
    record { value = λ m told tag. free_made m told x y c.args.part tag c.in_ok-unused.unused c.new.result frees c.new.ensures.value }
