use Rattle.std.proofs.Common.{rules, tests, refl, ◌∙◌, arith}
use Rattle.std.proofs.lemmas.Iterator.{YieldsList-from_range}
use Rattle.std.proofs.lemmas.Iterator.Search.{all_from_yields_List}
use Rattle.checks.proofs.Below.{all_in_range}
use Rattle.layers.proofs.all.all_lit.Goals as goal

pub returns : goal.returns
returns g c =
    let m = g.R.Recogniser.meaning c.args.below.now in
    let lit = m.lit c.args.element in
    record { value = λ o sound. all_from_yields_List lit _ _ c.all.result c.all.ensures.ran (YieldsList-from_range 0 c.width.result m.width refl (omega (arith, c.width.ensures.value))) (λ x b q k. search (rules, tests, o, sound)) ∙ all_in_range m.width lit }
