use Rattle.std.proofs.Common.{◌≡◌, ◌<◌, true, false, rules, tests, refl, arith}
use Rattle.std.proofs.lemmas.Iterator.{YieldsList-from_range, cases_from_any}
use Rattle.pairs.proofs.Below.{any_told}
use Rattle.before_after.specs.BeforeAfter.{lit_at}
use Rattle.before_after.proofs.recogniser.BeforeAfter.row_lit.Goals as goal

pub returns : goal.returns
returns g c =
    let after = c.args.self.now.after in
    let n = g.S.SmallRecogniser.small after in
    let lit = lit_at (g.S.Recogniser.meaning after) n c.args.pairs c.args.first in
    record {
      value = λ o.
          any_told n.order lit c.any.result
          (cases_from_any _ _ c.any.result (λ j. j < n.order → lit j ≡ true) (λ j. j < n.order → lit j ≡ false) c.any.ensures.ran (YieldsList-from_range 0 c.order.result n.order refl (omega (arith, c.order.ensures.value)))
          (λ x q k. search (rules, tests, o)) (λ x q k. search (rules, tests, o)));
    }
