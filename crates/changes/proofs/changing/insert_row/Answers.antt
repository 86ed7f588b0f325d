use Rattle.std.proofs.Common.{None, Some, refl}
use Rattle.unused.specs.Listed.{Takes}
use Rattle.changes.proofs.Naming.{at_unused}
use Rattle.changes.proofs.Inserting.{insert_no_cell, insert_no_row, insert_made}
use Rattle.changes.proofs.changing.insert_row.Goals as goal

pub returns-in_err-taken : goal.returns-in_err-taken
returns-in_err-taken g c =
    let before = c.args.recogniser.now in
    let told = g.R.Recogniser.tally before in
    let x = c.args.cells.now in
    let takes = at_unused (λ v. Takes x v None) c.args.part c.unused.result c.unused.ensures.value c.in_err-taken.ensures.value in
    record {
      changes = λ tag. record {
        value = insert_no_cell (g.R.Recogniser.meaning before) (g.R.Recogniser.orderly before) told told x x c.args.part tag c.args.row c.args.kind c.from_residual.result takes;
        same = refl {a = g.R.Recogniser.meaning before};
        order = λ h. h;
      };
    }

pub returns-in_err-root : goal.returns-in_err-root
returns-in_err-root g c =
    let before = c.args.recogniser.now in
    let tally = g.R.Recogniser.tally in
    let x = c.args.cells.now in
    let takes = at_unused (λ v. Takes x v (Some c.in_ok-taken.taken)) c.args.part c.unused.result c.unused.ensures.value c.in_ok-taken.ensures.value in
    let insert = c.in_err-root.ensures in
    record {
      changes = λ tag. record {
        value = insert_no_row (g.R.Recogniser.meaning before) (g.R.Recogniser.orderly before) (tally before) (tally c.insert.new.recogniser) x c.insert.new.cells c.args.part tag c.args.row c.args.kind c.mode.result c.before-2.result c.mode.ensures.value c.before-2.ensures.value c.in_ok-taken.taken takes c.from_residual-in_err-root.result insert.value;
        same = insert.asks.same;
        order = insert.asks.order;
      };
    }

pub returns : goal.returns
returns g c =
    let before = c.args.recogniser.now in
    let tally = g.R.Recogniser.tally in
    let x = c.args.cells.now in
    let takes = at_unused (λ v. Takes x v (Some c.in_ok-taken.taken)) c.args.part c.unused.result c.unused.ensures.value c.in_ok-taken.ensures.value in
    let insert = c.in_ok-root.ensures in
    record {
      changes = λ tag. record {
        value = insert_made (g.R.Recogniser.meaning before) (g.R.Recogniser.orderly before) (tally before) (tally c.insert.new.recogniser) x c.insert.new.cells c.args.part tag c.args.row c.args.kind c.mode.result c.before-2.result c.mode.ensures.value c.before-2.ensures.value c.in_ok-taken.taken takes c.in_ok-root.root c.new.result insert.value c.new.ensures.value;
        same = insert.asks.same;
        order = insert.asks.order;
      };
    }
