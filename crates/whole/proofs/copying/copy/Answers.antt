use Rattle.whole.proofs.Duplicates.{copy_no_size, copy_too_few, copied}
use Rattle.whole.proofs.copying.copy.Goals as goal

pub returns-in_err-rows : goal.returns-in_err-rows
returns-in_err-rows g c = record { value = copy_no_size c.args.cells.now c.args.unused.first c.args.root c.in_err-rows.ensures.value c.from_residual.result }

pub returns-then-not-enough_unused : goal.returns-then-not-enough_unused
returns-then-not-enough_unused g c = record { value = copy_too_few c.args.cells.now c.args.unused.first c.args.root c.in_ok-rows.rows c.in_ok-rows.ensures.value c.if-not-enough_unused.ensures.value }

pub returns : goal.returns
returns g c = record { value = copied c.args.cells.now c.args.unused.first c.args.root c.in_ok-rows.rows c.in_ok-rows.ensures.value c.copy_rows.new.cells c.copy_rows.result c.if-not-enough_unused.ensures.value c.copy_rows.ensures.value }
