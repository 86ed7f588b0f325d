use Rattle.plain.specs.declared.call.Call.TheVariants.{Range}
use Rattle.calls.proofs.Declining.{tally_risen, admitted, declined_called}
use Rattle.calls.proofs.Showing.{range_asks, asked_called}
use Rattle.calls.proofs.Reading.{range_finds}
use Rattle.calls.proofs.asking.show_range.Goals as goal

pub returns-in-Err : goal.returns-in-Err
returns-in-Err g c =
    let r = g.R.Recogniser in
    let s = c.args.recogniser.now in
    record {
      called = declined_called r.meaning r.orderly r.tally c.args.records.now c.args.cells.now s (Range c.args.tag c.args.first c.args.last) c.dark.result (g.met.R.Recogniser.bounded s) c.admit.result c.in-Err.refusal c.in-Err.is c.admit.ensures.value c.dark.ensures.value;
    }

pub returns : goal.returns
returns g c =
    let r = g.R.Recogniser in
    let b = c.args.records.now in
    let x = c.args.cells.now in
    let s = c.args.recogniser.now in
    let s' = c.range-image.new.recogniser in
    let met = g.met.R.Recogniser in
    let call = Range c.args.tag c.args.first c.args.last in
    let accepted = admitted b call c.admit.result c.in_default.field-0 c.in_default.is c.admit.ensures.value in
    let range = c.range-image.ensures in
    let count = c.rise-count.result in
    let risen = tally_risen (r.tally s) (r.tally s') c.asked-told.result c.asked.result count c.asked-told.ensures.value c.asked.ensures.value c.rise-count.ensures.value in
    record {
      called = asked_called r.meaning r.orderly b x s s' call count c.show.result (range_asks c.args.tag c.args.first c.args.last) accepted range.asked.same range.asked.order (met.shaped s) (met.lawful s) (λ k. absurd k) (λ k. absurd k) r.tally risen c.range-image.result c.show.ensures.value (λ lawful ordered before sound. range_finds sound c.lent-within.result c.lent-within.ensures.value c.args.tag c.root.result c.root.ensures.value (r.orderly s) ordered c.range-image.result c.args.first c.args.last c.saturating_sub.result c.rows-from.result c.rows.result count (r.tally s) (r.tally s') c.saturating_sub.ensures c.rows-from.ensures.value c.rows.ensures.value c.rise-count.type_inv (met.bounded s') risen accepted range.value range.refused range.asked.counted);
    }
