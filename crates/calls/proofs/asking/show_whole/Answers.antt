use Rattle.std.proofs.Common.{refl}
use Rattle.plain.specs.declared.call.Call.TheVariants.{Whole}
use Rattle.calls.proofs.Declining.{tally_same, admitted, declined_called}
use Rattle.calls.proofs.Showing.{whole_asks, asked_called}
use Rattle.calls.proofs.Reading.{whole_finds}
use Rattle.calls.proofs.asking.show_whole.Goals as goal

pub returns-in-Err : goal.returns-in-Err
returns-in-Err g c =
    let r = g.R.Recogniser in
    let s = c.args.recogniser.now in
    record {
      called = declined_called r.meaning r.orderly r.tally c.args.records.now c.args.cells.now s (Whole c.args.tag) c.dark.result (g.met.R.Recogniser.bounded s) c.admit.result c.in-Err.refusal c.in-Err.is c.admit.ensures.value c.dark.ensures.value;
    }

pub returns : goal.returns
returns g c =
    let r = g.R.Recogniser in
    let b = c.args.records.now in
    let x = c.args.cells.now in
    let s = c.args.recogniser.now in
    let met = g.met.R.Recogniser in
    let accepted = admitted b (Whole c.args.tag) c.admit.result c.in_default.field-0 c.in_default.is c.admit.ensures.value in
    let whole = c.whole-image.ensures in
    record {
      called = asked_called r.meaning r.orderly b x s s (Whole c.args.tag) 0 c.show.result (whole_asks c.args.tag) accepted refl (λ o. o) (met.shaped s) (met.lawful s) (λ k. refl) (λ k. refl) r.tally (tally_same (r.tally s) 0 (met.bounded s) refl) c.whole-image.result c.show.ensures.value (λ lawful ordered before sound. whole_finds sound c.lent-within.result c.lent-within.ensures.value c.args.tag c.root.result c.root.ensures.value (r.orderly s) ordered c.whole-image.result accepted whole.value whole.refused);
    }
