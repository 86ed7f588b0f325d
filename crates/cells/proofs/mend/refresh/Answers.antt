use Rattle.std.proofs.Common.{ap, ◌∙◌, arith}
use Rattle.cells.specs.Asking.{cost}
use Rattle.cells.proofs.mend.refresh.Goals as goal

pub returns-in-Asking-clause-asks : goal.returns-in-Asking-clause-asks
returns-in-Asking-clause-asks g c =
    let front = c.product-front.ensures in
    let whole = c.product.ensures in
    let two = ap (λ v. cost v 2) c.in-Asking.is in
    record {
      same = whole.same ∙ front.same;
      order = λ h. whole.order (front.order h);
      counted = (2, omega arith, omega arith);
    }
