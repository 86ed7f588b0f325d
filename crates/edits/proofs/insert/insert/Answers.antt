use Rattle.std.proofs.Common.{◌*◌, Some, arith}
use Rattle.cells.specs.Asking.{Due, cost}
use Rattle.cells.proofs.Asking.{due_order, due_kept, asks_none, costs_more, costs_then}
use Rattle.edits.proofs.Editing.{rises_as}
use Rattle.edits.proofs.Inserting.{insert-no_way, insert_no_start, insert_done}
use Rattle.edits.proofs.insert.insert.Goals as goal

pub returns-in_err-way-clause-value : goal.returns-in_err-way-clause-value
returns-in_err-way-clause-value g c =
    let before = c.args.recogniser.now in
    let told = g.R.Recogniser.tally before in
    let x = c.args.cells.now in
    insert-no_way (g.R.Recogniser.meaning before) (Due c.args.mode (g.R.Recogniser.orderly before)) c.args.mode told told x x x c.args.root c.args.index c.args.kind c.args.free c.from_residual.result c.in_err-way.ensures.value

pub returns-in_err-way-clause-asks : goal.returns-in_err-way-clause-asks
returns-in_err-way-clause-asks g c =
    let before = c.args.recogniser.now in
    asks_none (cost c.args.mode 146) before

pub returns-in_err-start-clause-value : goal.returns-in_err-start-clause-value
returns-in_err-start-clause-value g c =
    let before = c.args.recogniser.now in
    let after = c.mend.new.recogniser in
    let tally = g.R.Recogniser.tally in
    let y = c.mend.new.cells in
    insert_no_start (g.R.Recogniser.meaning before) (Due c.args.mode (g.R.Recogniser.orderly before)) c.args.mode (tally before) (tally after) c.args.cells.now y y c.args.root c.args.index c.args.kind c.args.free c.from_residual-in_err-start.result c.in_err-start.ensures.value

pub returns-in_err-start-clause-asks : goal.returns-in_err-start-clause-asks
returns-in_err-start-clause-asks g c =
    let before = c.args.recogniser.now in
    let after = c.mend.new.recogniser in
    costs_more c.args.mode 2 146 before after (omega arith) c.in_err-start.ensures.asks

pub returns-clause-value : goal.returns-clause-value
returns-clause-value g c =
    let before = c.args.recogniser.now in
    let between = c.mend.new.recogniser in
    let after = c.rise.new.recogniser in
    let meaning = g.R.Recogniser.meaning in
    let orderly = g.R.Recogniser.orderly in
    let tally = g.R.Recogniser.tally in
    let mode = c.args.mode in
    let way = c.in_ok-way.way in
    let start = Some c.in_ok-start.start in
    let first = c.in_ok-start.ensures in
    let rest = c.rise.ensures in
    let y = c.mend.new.cells in
    let z = c.rise.new.cells in
    insert_done (meaning before) (Due mode (orderly before)) mode (tally before) (tally after) c.args.cells.now y z c.args.root c.args.index c.args.kind c.args.free (λ d. g.met.R.Recogniser.lawful before (due_order mode d)) way c.in_ok-start.start c.rise.result c.in_ok-way.ensures.value first.value
    (rises_as (meaning before) (meaning between) (Due mode (orderly before)) (Due mode (orderly between)) y z way start c.rise.result first.asks.same (due_kept mode first.asks.order) rest.value)
    (λ most h. (costs_then mode 2 (6 * way.depth) most before between after h first.asks rest.asks).counted)

pub returns-clause-asks : goal.returns-clause-asks
returns-clause-asks g c =
    let before = c.args.recogniser.now in
    let between = c.mend.new.recogniser in
    let after = c.rise.new.recogniser in
    let mode = c.args.mode in
    let first = c.in_ok-start.ensures in
    let rest = c.rise.ensures in
    costs_then mode 2 144 146 before between after (omega arith) first.asks rest.most
