use Rattle.std.proofs.Common.{◌*◌, Some, None, arith}
use Rattle.cells.specs.Asking.{Due, cost}
use Rattle.cells.proofs.Asking.{due_order, due_kept, asks_none, costs_more, costs_then}
use Rattle.edits.proofs.Renewing.{mends_linked}
use Rattle.edits.proofs.Replacing.{renews_as, replace_no_row, replace_no_cell, replace_no_start, replace_done}
use Rattle.edits.proofs.replace.replace.Goals as goal

pub returns-in_err-row-clause-value : goal.returns-in_err-row-clause-value
returns-in_err-row-clause-value g c =
    let before = c.args.recogniser.now in
    let told = g.R.Recogniser.tally before in
    let mode = c.args.mode in
    let x = c.args.cells.now in
    replace_no_row (g.R.Recogniser.meaning before) (Due mode (g.R.Recogniser.orderly before)) mode told told x x x c.args.root c.args.index c.args.kind c.from_residual.result c.in_err-row.ensures.value

pub returns-in_err-row-clause-asks : goal.returns-in_err-row-clause-asks
returns-in_err-row-clause-asks g c =
    let before = c.args.recogniser.now in
    let mode = c.args.mode in
    asks_none (cost mode 50) before

pub returns-in_err-cell-clause-value : goal.returns-in_err-cell-clause-value
returns-in_err-cell-clause-value g c =
    let before = c.args.recogniser.now in
    let told = g.R.Recogniser.tally before in
    let mode = c.args.mode in
    let x = c.args.cells.now in
    replace_no_cell (g.R.Recogniser.meaning before) (Due mode (g.R.Recogniser.orderly before)) mode told told x x x c.args.root c.args.index c.args.kind c.in_ok-row.row c.in_ok-row.ensures.value c.from_residual-in_err-cell.result c.in_err-cell.ensures.value

pub returns-in_err-cell-clause-asks : goal.returns-in_err-cell-clause-asks
returns-in_err-cell-clause-asks g c =
    let before = c.args.recogniser.now in
    let mode = c.args.mode in
    asks_none (cost mode 50) before

pub returns-in_err-start-clause-value : goal.returns-in_err-start-clause-value
returns-in_err-start-clause-value g c =
    let before = c.args.recogniser.now in
    let after = c.mend.new.recogniser in
    let tally = g.R.Recogniser.tally in
    let mode = c.args.mode in
    let y = c.mend.new.cells in
    replace_no_start (g.R.Recogniser.meaning before) (Due mode (g.R.Recogniser.orderly before)) mode (tally before) (tally after) c.args.cells.now y y c.args.root c.args.index c.args.kind c.in_ok-row.row c.in_ok-row.ensures.value c.in_ok-cell.cell c.in_ok-cell.ensures.value c.from_residual-in_err-start.result (mends_linked (g.R.Recogniser.meaning before) (Due mode (g.R.Recogniser.orderly before)) c.args.cells.now y _ c.in_ok-cell.cell c.links.result None c.links.ensures.value c.in_err-start.ensures.value)

pub returns-in_err-start-clause-asks : goal.returns-in_err-start-clause-asks
returns-in_err-start-clause-asks g c =
    let before = c.args.recogniser.now in
    let after = c.mend.new.recogniser in
    let mode = c.args.mode in
    costs_more mode 2 50 before after (omega arith) c.in_err-start.ensures.asks

pub returns-clause-value : goal.returns-clause-value
returns-clause-value g c =
    let before = c.args.recogniser.now in
    let between = c.mend.new.recogniser in
    let after = c.renew.new.recogniser in
    let meaning = g.R.Recogniser.meaning in
    let orderly = g.R.Recogniser.orderly in
    let tally = g.R.Recogniser.tally in
    let mode = c.args.mode in
    let row = c.in_ok-row.row in
    let first = c.in_ok-start.ensures in
    let rest = c.renew.ensures in
    let y = c.mend.new.cells in
    let z = c.renew.new.cells in
    replace_done (meaning before) (Due mode (orderly before)) mode (tally before) (tally after) c.args.cells.now y z c.args.root c.args.index c.args.kind row c.in_ok-row.ensures.value c.in_ok-cell.cell c.in_ok-cell.ensures.value (λ d. g.met.R.Recogniser.lawful before (due_order mode d)) c.in_ok-start.start c.renew.result (mends_linked (meaning before) (Due mode (orderly before)) c.args.cells.now y _ c.in_ok-cell.cell c.links.result (Some c.in_ok-start.start) c.links.ensures.value first.value)
    (renews_as (meaning before) (meaning between) (Due mode (orderly before)) (Due mode (orderly between)) y z row.way c.in_ok-start.start c.renew.result first.asks.same (due_kept mode first.asks.order) rest.value)
    (λ most h. (costs_then mode 2 (2 * row.way.depth) most before between after h first.asks rest.asks).counted)

pub returns-clause-asks : goal.returns-clause-asks
returns-clause-asks g c =
    let before = c.args.recogniser.now in
    let between = c.mend.new.recogniser in
    let after = c.renew.new.recogniser in
    let mode = c.args.mode in
    let first = c.in_ok-start.ensures in
    let rest = c.renew.ensures in
    costs_then mode 2 48 50 before between after (omega arith) first.asks rest.most
