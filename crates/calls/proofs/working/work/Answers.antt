use Rattle.std.proofs.Common.{◌+◌, ◌%◌, ◌^◌, sym, ap, ◌∙◌}
use Rattle.calls.proofs.Declining.{admitted, declined_called}
use Rattle.calls.proofs.Promised.{worked_called}
use Rattle.calls.proofs.working.work.Goals as goal

pub returns-in-Err : goal.returns-in-Err
returns-in-Err g c =
    let r = g.R.Recogniser in
    let s = c.args.recogniser.now in
    record {
      called = λ worked. declined_called r.meaning r.orderly r.tally c.args.records.now c.args.cells.now s c.args.call c.dark.result (g.met.R.Recogniser.bounded s) c.admit.result c.in-Err.refusal c.in-Err.is c.admit.ensures.value c.dark.ensures.value;
    }

pub returns : goal.returns
returns g c =
    let r = g.R.Recogniser in
    let s = c.args.recogniser.now in
    let b = c.args.records.now in
    let part = c.part_of-part in
    let change = c.change_cells-change in
    record {
      called = λ worked. worked_called r.meaning r.orderly r.tally b c.conclude.new.records c.args.cells.now change.new.cells s change.new.recogniser c.args.call worked (admitted b c.args.call c.admit.result c.in_default.field-0 c.in_default.is c.admit.ensures.value) c.tag.result c.lent-within.result c.rise-count.result part.result change.result c.conclude.result c.tag.ensures.value part.ensures.root part.ensures.state part.ensures.unused c.lent-within.ensures.value change.auto.cells change.ensures.changes.value change.ensures.changes.same change.ensures.changes.order (sym c.asked.ensures.value ∙ c.rise-count.ensures.value ∙ ap (λ t. (t + c.rise-count.result) % 2 ^ 64) c.asked-told.ensures.value) c.rise-count.type_inv change.ensures.unasked c.conclude.ensures.value;
    }
