use Rattle.std.proofs.Common.{◌≡◌, ◌<◌, ◌≤◌, sym, ap, subst, add-one, arith}
use Rattle.std.proofs.lemmas.Bool.{leb-true, leb-false}
use Rattle.heights.specs.Heights.{fewest, highest, Greatest}
use Rattle.heights.proofs.Fewest.{fewest-none, fewest_one, fewest_more}
use Rattle.heights.proofs.Highest.{greatest, highest_is, highest_up, worked, below_limit}
use Rattle.heights.proofs.height.most_height.Goals as goal

pub loop-over-init : goal.loop-over-init
loop-over-init c = (sym fewest-none, sym fewest_one, omega arith)

pub overflow_add-height : goal.overflow_add-height
overflow_add-height c =
    let inv = c.loop-over.invariant in
    let low = below_limit c.loop-over.height c.args.rows (omega arith) (omega arith) in
    omega arith

pub loop-over-smaller : goal.loop-over-smaller
loop-over-smaller c =
    let more : c.loop-over.next ≤ c.args.rows = leb-true c.loop-over.next c.args.rows (sym c.loop-over-test.ensures.value) in
    omega arith

pub loop-over-preserved : goal.loop-over-preserved
loop-over-preserved c =
    let inv = c.loop-over.invariant in
    let next = fewest_more c.loop-over.height in
    (inv.1, omega arith, leb-true c.loop-over.next c.args.rows (sym c.loop-over-test.ensures.value))

pub returns : goal.returns
returns c =
    let inv = c.loop-over.invariant in
    let rows = c.args.rows in
    let height = c.loop-over.height in
    let next = ap fewest (add-one height) in
    let too_few : rows < c.loop-over.next = leb-false c.loop-over.next rows (sym c.loop-over-test.ensures.value) in
    let is : height ≡ highest rows = highest_is rows height (omega arith) (omega arith) in
    record {
      value = is;
      greatest = subst (λ h. Greatest rows h) (sym is) (greatest rows);
      order = λ n le. let a = highest_up n rows le in omega arith;
      worked = worked;
      bound = let low = below_limit height rows (omega arith) (omega arith) in omega arith;
    }
