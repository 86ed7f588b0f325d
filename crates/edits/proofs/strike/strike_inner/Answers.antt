use Rattle.std.proofs.Common.{◌*◌, Some}
use Rattle.cells.specs.Asking.{Due, cost}
use Rattle.cells.proofs.Asking.{due_order, asks_none, costs_more}
use Rattle.edits.proofs.Striking.{inner_no_next, inner_no_cell, inner_refused, inner_done}
use Rattle.edits.proofs.strike.strike_inner.Goals as goal

pub returns-in_err-next-clause-value : goal.returns-in_err-next-clause-value
returns-in_err-next-clause-value g c =
    let before = c.args.recogniser.now in
    let told = g.R.Recogniser.tally before in
    let mode = c.args.mode in
    let x = c.args.cells.now in
    inner_no_next (g.R.Recogniser.meaning before) (Due mode (g.R.Recogniser.orderly before)) (λ d. g.met.R.Recogniser.lawful before (due_order mode d)) mode told told x x x c.args.row.now c.args.right c.from_residual.result c.in_err-next.ensures.value

pub returns-in_err-next-clause-asks : goal.returns-in_err-next-clause-asks
returns-in_err-next-clause-asks g c =
    let before = c.args.recogniser.now in
    let mode = c.args.mode in
    asks_none (cost mode 144) before

pub returns-in_err-cell-clause-value : goal.returns-in_err-cell-clause-value
returns-in_err-cell-clause-value g c =
    let before = c.args.recogniser.now in
    let told = g.R.Recogniser.tally before in
    let mode = c.args.mode in
    let x = c.args.cells.now in
    inner_no_cell (g.R.Recogniser.meaning before) (Due mode (g.R.Recogniser.orderly before)) (λ d. g.met.R.Recogniser.lawful before (due_order mode d)) mode told told x x x c.args.row.now c.args.right c.in_ok-next.next c.in_ok-next.ensures.value c.from_residual-in_err-cell.result c.in_err-cell.ensures.value

pub returns-in_err-cell-clause-asks : goal.returns-in_err-cell-clause-asks
returns-in_err-cell-clause-asks g c =
    let before = c.args.recogniser.now in
    let mode = c.args.mode in
    asks_none (cost mode 144) before

pub returns-in_err-root-clause-value : goal.returns-in_err-root-clause-value
returns-in_err-root-clause-value g c =
    let before = c.args.recogniser.now in
    let after = c.rise.new.recogniser in
    let tally = g.R.Recogniser.tally in
    let mode = c.args.mode in
    let next = c.in_ok-next.next in
    let rises = c.in_err-root.ensures in
    inner_refused (g.R.Recogniser.meaning before) (Due mode (g.R.Recogniser.orderly before)) (λ d. g.met.R.Recogniser.lawful before (due_order mode d)) mode (tally before) (tally after) c.args.cells.now c.recast.new.cells c.rise.new.cells c.args.row.now c.args.right next c.in_ok-next.ensures.value c.in_ok-cell.cell c.from_residual-in_err-root.result c.in_ok-cell.ensures.value c.recast.ensures.after rises.value (λ most h. (costs_more mode (6 * next.way.depth) most before after h rises.asks).counted)

pub returns-in_err-root-clause-asks : goal.returns-in_err-root-clause-asks
returns-in_err-root-clause-asks g c =
    let rises = c.in_err-root.ensures in
    rises.most

pub returns-clause-value : goal.returns-clause-value
returns-clause-value g c =
    let before = c.args.recogniser.now in
    let after = c.rise.new.recogniser in
    let tally = g.R.Recogniser.tally in
    let mode = c.args.mode in
    let next = c.in_ok-next.next in
    let rises = c.in_ok-root.ensures in
    inner_done (g.R.Recogniser.meaning before) (Due mode (g.R.Recogniser.orderly before)) (λ d. g.met.R.Recogniser.lawful before (due_order mode d)) mode (tally before) (tally after) c.args.cells.now c.recast.new.cells c.rise.new.cells c.args.row.now c.args.right next c.in_ok-next.ensures.value c.in_ok-cell.cell (Some c.in_ok-root.root) c.in_ok-cell.ensures.value c.recast.ensures.after rises.value (λ most h. (costs_more mode (6 * next.way.depth) most before after h rises.asks).counted)

pub returns-clause-asks : goal.returns-clause-asks
returns-clause-asks g c =
    let rises = c.in_ok-root.ensures in
    rises.most
