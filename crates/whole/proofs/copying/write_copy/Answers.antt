use Rattle.std.proofs.Common.{set, ap, ◌∙◌}
use Rattle.whole.proofs.Doubling.{write_no_cell, write_done}
use Rattle.whole.proofs.copying.write_copy.Goals as goal

pub returns-in_err-taken : goal.returns-in_err-taken
returns-in_err-taken g c = record { value = write_no_cell c.args.cells.now c.args.cells.now c.args.unused.first c.args.cell c.args.sides c.from_residual.result c.in_err-taken.ensures.value }

pub returns : goal.returns
returns g c = record { value = write_done c.args.cells.now c.put.new.cells c.args.unused.first c.args.cell c.args.sides c.in_ok-taken.taken c.in_ok-taken.ensures.value (c.put.ensures.after ∙ ap (set c.args.cells.now c.in_ok-taken.taken.place) c.relink.ensures.value) }
