use Rattle.std.proofs.Common.{◌≡◌, ap, ◌∙◌}
use Rattle.monoid.specs.Words.{image_of}
use Rattle.monoid.specs.Lamps.{lamps_of}
use Rattle.monoid.proofs.Lighting.{lamps_told, verdicts_of}
use Rattle.monoid.proofs.fold.word_lamps.Goals as goal

pub returns : goal.returns
returns g c =
    let r = g.R.Recogniser in
    let s = c.args.recogniser.now in
    let w = c.args.word.now in
    let image = c.word_image-image.ensures in
    let told : r.orderly s → c.of.result ≡ lamps_of (r.meaning s) (image_of (r.meaning s) w) = λ o. lamps_told (g.met.R.Recogniser.lawful s o) image.asked.same w c.word_image-image.result c.of.result (image.value o) (c.of.ensures.value (image.asked.order o)) in
    record {
      value = told;
      wide = c.of.ensures.wide ∙ ap (λ m. m.width) image.asked.same;
      verdicts = λ o. verdicts_of (g.met.R.Recogniser.shaped s) w c.of.result (told o);
      asked = image.asked;
    }
