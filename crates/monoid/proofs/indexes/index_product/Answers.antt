use Rattle.std.proofs.Common.{◌≡◌, ◌<◌, sym, subst}
use Rattle.monoid.specs.Small.{index_of_product}
use Rattle.monoid.proofs.Carrying.{product_by_index, product_index_below, carried}
use Rattle.monoid.proofs.indexes.index_product.Goals as goal

pub returns : goal.returns
returns g c =
    let r = g.S.SmallRecogniser in
    let s = c.args.recogniser.now in
    let i = c.args.left in
    let j = c.args.right in
    let product = c.element_product-product.ensures in
    let laws = g.met.S.Recogniser.lawful s in
    let undone = g.met.S.SmallRecogniser.undone s in
    let told : g.S.Recogniser.orderly s → i < (r.small s).order → j < (r.small s).order → c.index.result ≡ index_of_product (g.S.Recogniser.meaning s) (r.small s) i j
    = λ o hi hj. product_by_index (laws o) (undone o) product.asked.same (g.met.S.SmallRecogniser.steady c.element_product-product.new.recogniser s product.asked.same) i j c.element_product-product.result c.index.result hi hj (product.value o hi hj) (c.index.ensures.value (product.asked.order o)) in
    record {
      value = told;
      below = λ o hi hj. subst (λ k. k < (r.small s).order) (sym (told o hi hj)) (product_index_below (laws o) (undone o) i j hi hj);
      carried = λ o. carried (g.met.S.Recogniser.shaped s) (laws o) (undone o);
      asked = product.asked;
    }
