use Rattle.std.proofs.Common.{◌∙◌, arith}
use Rattle.ranges.proofs.Joining.{extended}
use Rattle.ranges.proofs.join.extend.Goals as goal

pub returns : goal.returns
returns g c =
    let inner = c.join_at-other.ensures in
    let outer = c.join_at.ensures in
    let one = inner.asked.counted in
    let two = outer.asked.counted in
    record {
      value = λ o. extended (g.met.R.Recogniser.lawful c.args.recogniser.now o) (g.R.Recogniser.meaning c.join_at-other.new.recogniser) inner.asked.same c.args.end c.image-image.result c.join_at-other.result c.args.word c.args.stretch c.join_at.result c.args.kind (c.image-image.ensures.value o) (inner.value o) (outer.value (inner.asked.order o));
      asked = record { same = outer.asked.same ∙ inner.asked.same; order = λ o. outer.asked.order (inner.asked.order o); counted = omega arith };
    }
