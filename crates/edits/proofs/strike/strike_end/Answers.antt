use Rattle.std.proofs.Common.{◌*◌, Some}
use Rattle.cells.specs.Asking.{Due}
use Rattle.cells.proofs.Asking.{due_order, costs_more}
use Rattle.edits.proofs.Striking.{end_done, end_refused}
use Rattle.edits.proofs.strike.strike_end.Goals as goal

pub returns-in_err-root : goal.returns-in_err-root
returns-in_err-root g c =
    let before = c.args.recogniser.now in
    let after = c.rise.new.recogniser in
    let tally = g.R.Recogniser.tally in
    let mode = c.args.mode in
    let row = c.args.row.now in
    let rises = c.in_err-root.ensures in
    record {
      value = end_refused (g.R.Recogniser.meaning before) (Due mode (g.R.Recogniser.orderly before)) (λ d. g.met.R.Recogniser.lawful before (due_order mode d)) mode (tally before) (tally after) c.args.cells.now c.rise.new.cells row c.args.left c.from_residual.result rises.value (λ most h. (costs_more mode (6 * row.way.depth) most before after h rises.asks).counted);
      asks = rises.most;
    }

pub returns : goal.returns
returns g c =
    let before = c.args.recogniser.now in
    let after = c.rise.new.recogniser in
    let tally = g.R.Recogniser.tally in
    let mode = c.args.mode in
    let row = c.args.row.now in
    let rises = c.in_ok-root.ensures in
    record {
      value = end_done (g.R.Recogniser.meaning before) (Due mode (g.R.Recogniser.orderly before)) (λ d. g.met.R.Recogniser.lawful before (due_order mode d)) mode (tally before) (tally after) c.args.cells.now c.rise.new.cells row c.args.left (Some c.in_ok-root.root) rises.value (λ most h. (costs_more mode (6 * row.way.depth) most before after h rises.asks).counted);
      asks = rises.most;
    }
