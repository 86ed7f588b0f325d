use Rattle.std.proofs.Common.{map, refl, ap, ◌∙◌, arith}
use Rattle.whole.specs.Descents.{bare}
use Rattle.whole.proofs.Baring.{bare_set}
use Rattle.whole.proofs.Refreshing.{refresh_no_cell, refresh_no_left, refresh_no_right, refreshed, none_asked}
use Rattle.whole.proofs.renewing.refresh.Goals as goal

pub returns-in_err-cell-clause-value : goal.returns-in_err-cell-clause-value
returns-in_err-cell-clause-value g c =
    let r = g.R.Recogniser in
    let s = c.args.recogniser.now in
    refresh_no_cell (r.meaning s) (r.orderly s) c.args.cells.now c.args.place c.in_err-cell.ensures.value c.args.cells.now c.from_residual.result

pub returns-in_err-cell-clause-asked : goal.returns-in_err-cell-clause-asked
returns-in_err-cell-clause-asked g c =
    let r = g.R.Recogniser in
    let s = c.args.recogniser.now in
    record { same = refl; order = λ o. o; counted = none_asked c.from_residual.result (r.tally s) c.from_residual.ensures }

pub returns-in_err-left-clause-value : goal.returns-in_err-left-clause-value
returns-in_err-left-clause-value g c =
    let r = g.R.Recogniser in
    let s = c.args.recogniser.now in
    refresh_no_left (r.meaning s) (r.orderly s) c.args.cells.now c.args.place c.in_ok-cell.cell c.in_ok-cell.ensures.value c.unit-unit.result c.in_err-left.ensures.value c.args.cells.now c.from_residual-in_err-left.result

pub returns-in_err-left-clause-asked : goal.returns-in_err-left-clause-asked
returns-in_err-left-clause-asked g c =
    let r = g.R.Recogniser in
    let s = c.args.recogniser.now in
    record { same = refl; order = λ o. o; counted = none_asked c.from_residual-in_err-left.result (r.tally s) c.from_residual-in_err-left.ensures }

pub returns-in_err-right-clause-value : goal.returns-in_err-right-clause-value
returns-in_err-right-clause-value g c =
    let r = g.R.Recogniser in
    let s = c.args.recogniser.now in
    refresh_no_right (r.meaning s) (r.orderly s) c.args.cells.now c.args.place c.in_ok-cell.cell c.in_ok-cell.ensures.value c.unit-unit.result c.in_err-right.ensures.value c.args.cells.now c.from_residual-in_err-right.result

pub returns-in_err-right-clause-asked : goal.returns-in_err-right-clause-asked
returns-in_err-right-clause-asked g c =
    let r = g.R.Recogniser in
    let s = c.args.recogniser.now in
    record { same = refl; order = λ o. o; counted = none_asked c.from_residual-in_err-right.result (r.tally s) c.from_residual-in_err-right.ensures }

pub returns-clause-value : goal.returns-clause-value
returns-clause-value g c =
    let r = g.R.Recogniser in
    let s = c.args.recogniser.now in
    let told = c.product_between-cell.ensures in
    refreshed (r.meaning s) (r.orderly s) c.args.cells.now c.args.place c.in_ok-cell.cell c.in_ok-cell.ensures.value c.unit-unit.result c.in_ok-left.left c.in_ok-right.right c.product_between-cell.result c.put.new.cells c.in_ok-left.ensures.value c.in_ok-right.ensures.value c.unit-unit.ensures.value told.value c.put.ensures.after

pub returns-clause-asked : goal.returns-clause-asked
returns-clause-asked g c =
    let told = c.product_between-cell.ensures in
    let two = told.asked.counted in
    record { same = told.asked.same; order = told.asked.order; counted = record { made = λ j e. two; always = (2, omega arith, two) } }

pub returns-clause-bare : goal.returns-clause-bare
returns-clause-bare g c = ap (map bare) c.put.ensures.after ∙ bare_set c.args.cells.now c.args.place c.in_ok-cell.cell _ c.in_ok-cell.ensures.value refl
