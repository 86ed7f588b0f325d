use Rattle.std.proofs.Common.{◌≡◌, ◌<◌, true, false, rules, tests, refl, arith}
use Rattle.std.proofs.lemmas.Iterator.{YieldsList-from_range, cases_from_any}
use Rattle.pairs.proofs.Below.{any_told}
use Rattle.before_after.specs.BeforeAfter.{lit_row}
use Rattle.before_after.proofs.recogniser.BeforeAfter.some_lit.Goals as goal

pub returns : goal.returns
returns g c =
    let before = c.args.self.now.before in
    let after = c.args.self.now.after in
    let n = g.P.SmallRecogniser.small before in
    let lit = lit_row (g.P.Recogniser.meaning before) n (g.S.Recogniser.meaning after) (g.S.SmallRecogniser.small after) c.args.pairs in
    record {
      value = λ o o'.
          any_told n.order lit c.any.result
          (cases_from_any _ _ c.any.result (λ i. i < n.order → lit i ≡ true) (λ i. i < n.order → lit i ≡ false) c.any.ensures.ran (YieldsList-from_range 0 c.order.result n.order refl (omega (arith, c.order.ensures.value)))
          (λ x q k. search (rules, tests, o, o')) (λ x q k. search (rules, tests, o, o')));
    }
