use Rattle.std.proofs.Common.{◌≡◌, ◌<◌, Some, ap, ◌∙◌}
use Rattle.memo.specs.Products.{found}
use Rattle.memo.proofs.Keeping.{kept_more, kept_same, asked_found}
use Rattle.memo.proofs.memo.Memo.product_at.Goals as goal

pub returns-clause-truth : goal.returns-clause-truth
returns-clause-truth g c o =
    let meaning = g.R.Recogniser.meaning in
    let small = g.R.SmallRecogniser.small in
    let s = c.args.self.now in
    let after = c.keep.new.self in
    let i = c.args.left in
    let j = c.args.right in
    let k = c.index_product-product.result in
    let product = c.index_product-product.ensures in
    let keep = c.keep.ensures in
    let same : meaning after.below ≡ meaning s.below = ap meaning keep.below ∙ product.asked.same in
    let steady = g.met.R.SmallRecogniser.steady c.index_product-product.new.recogniser s.below product.asked.same in
    let here : i < (small s.below).order → j < (small s.below).order → found after.products i j ≡ Some k = asked_found (g.met.R.Recogniser.lawful s.below o) (g.met.R.SmallRecogniser.undone s.below o) steady after.products i j k (product.value o) keep.after in
    λ kept. kept_same after.products same (g.met.R.SmallRecogniser.steady after.below s.below same) (kept_more i j s.products after.products keep.same steady k (product.value o) here keep.refused kept)
