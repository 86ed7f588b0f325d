use Rattle.std.proofs.Common.{◌≡◌, ◌+◌, ◌%◌, ◌^◌, length, ap, ◌∙◌, arith, take_all}
use Rattle.rows.specs.declared.kind.Kind.TheVariants.{Heading}
use Rattle.monoid.specs.Words.{image_of}
use Rattle.monoid.proofs.Words.{image_step, tally_more}
use Rattle.monoid.proofs.fold.word_image.Goals as goal

pub loop-kind-preserved : goal.loop-kind-preserved
loop-kind-preserved g c =
    let r = g.R.Recogniser in
    let s = c.args.recogniser.now in
    let inv = c.loop-kind.invariant in
    let product = c.with_row-image.ensures in (
      omega arith,
      product.asked.same ∙ inv.1,
      λ o. product.asked.order (inv.2 o),
      λ o. image_step (g.met.R.Recogniser.lawful s o) inv.1 c.args.word.now c.loop-kind.kind-index Heading c.loop-kind.image c.with_row-image.result c.loop-kind-test.true (inv.3 o) (product.value (inv.2 o)),
      product.asked.counted ∙ ap (λ t. (t + 1) % 2 ^ 64) inv.4 ∙ tally_more (r.tally s) c.loop-kind.kind-index,
    )

pub returns : goal.returns
returns g c =
    let r = g.R.Recogniser in
    let s = c.args.recogniser.now in
    let inv = c.loop-kind.invariant in
    record {
      value = λ o. inv.3 o ∙ ap (image_of (r.meaning s)) (take_all c.loop-kind.kind-index c.args.word.now c.loop-kind-test.false);
      asked =
          let all_rows : c.loop-kind.kind-index ≡ length c.args.word.now = omega arith in
          record { same = inv.1; order = inv.2; counted = inv.4 ∙ ap (λ n. (r.tally s + n) % 2 ^ 64) all_rows };
    }
