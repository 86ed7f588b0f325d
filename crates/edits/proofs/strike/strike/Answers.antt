use Rattle.cells.specs.Asking.{Due, cost}
use Rattle.cells.proofs.Asking.{asks_none}
use Rattle.edits.proofs.Striking.{strike_no_row, strike_no_cell, strike_by_end, strike_by_inner}
use Rattle.edits.proofs.strike.strike.Goals as goal

pub returns-in_err-row-clause-value : goal.returns-in_err-row-clause-value
returns-in_err-row-clause-value g c =
    let before = c.args.recogniser.now in
    let told = g.R.Recogniser.tally before in
    let mode = c.args.mode in
    let x = c.args.cells.now in
    strike_no_row (g.R.Recogniser.meaning before) (Due mode (g.R.Recogniser.orderly before)) mode told told x x c.args.root c.args.index c.from_residual.result c.in_err-row.ensures.value

pub returns-in_err-row-clause-asks : goal.returns-in_err-row-clause-asks
returns-in_err-row-clause-asks g c =
    let before = c.args.recogniser.now in
    let mode = c.args.mode in
    asks_none (cost mode 144) before

pub returns-in_err-cell-clause-value : goal.returns-in_err-cell-clause-value
returns-in_err-cell-clause-value g c =
    let before = c.args.recogniser.now in
    let told = g.R.Recogniser.tally before in
    let mode = c.args.mode in
    let x = c.args.cells.now in
    strike_no_cell (g.R.Recogniser.meaning before) (Due mode (g.R.Recogniser.orderly before)) mode told told x x c.args.root c.args.index c.in_ok-row.row c.in_ok-row.ensures.value c.from_residual-in_err-cell.result c.in_err-cell.ensures.value

pub returns-in_err-cell-clause-asks : goal.returns-in_err-cell-clause-asks
returns-in_err-cell-clause-asks g c =
    let before = c.args.recogniser.now in
    let mode = c.args.mode in
    asks_none (cost mode 144) before

pub returns-in-None-clause-value : goal.returns-in-None-clause-value
returns-in-None-clause-value g c =
    let before = c.args.recogniser.now in
    let tally = g.R.Recogniser.tally in
    let mode = c.args.mode in
    strike_by_end (g.R.Recogniser.meaning before) (Due mode (g.R.Recogniser.orderly before)) mode (tally before) (tally c.strike_end.new.recogniser) c.args.cells.now c.strike_end.new.cells c.args.root c.args.index c.in_ok-row.row c.in_ok-row.ensures.value c.in_ok-cell.cell c.strike_end.result c.in_ok-cell.ensures.value c.in-None.is c.strike_end.ensures.value

pub returns-in-None-clause-asks : goal.returns-in-None-clause-asks
returns-in-None-clause-asks g c = c.strike_end.ensures.asks

pub returns-in-Some-clause-value : goal.returns-in-Some-clause-value
returns-in-Some-clause-value g c =
    let before = c.args.recogniser.now in
    let tally = g.R.Recogniser.tally in
    let mode = c.args.mode in
    strike_by_inner (g.R.Recogniser.meaning before) (Due mode (g.R.Recogniser.orderly before)) mode (tally before) (tally c.strike_inner.new.recogniser) c.args.cells.now c.strike_inner.new.cells c.args.root c.args.index c.in_ok-row.row c.in_ok-row.ensures.value c.in_ok-cell.cell c.in-Some.right c.strike_inner.result c.in_ok-cell.ensures.value c.in-Some.is c.strike_inner.ensures.value

pub returns-in-Some-clause-asks : goal.returns-in-Some-clause-asks
returns-in-Some-clause-asks g c = c.strike_inner.ensures.asks
