use Rattle.std.proofs.Common.{◌+◌, None, sym, refl, ap, ◌∙◌, arith}
use Rattle.std.specs.Option.{option_map}
use Rattle.cells.proofs.Lookup.{none-some}
use Rattle.ranges.specs.Parts.{Never}
use Rattle.ranges.specs.declared.end.Sides.{Sides}
use Rattle.ranges.proofs.Descending.{take_all, take_deep, take_off, take_off_near, taking_near, taking_far}
use Rattle.ranges.proofs.Taking.{costs_refused, take_start, take_refused, take_costs, take_done, take_no_deeper, take_no_cell, take_no_near, take_near, take_far}
use Rattle.ranges.proofs.walk.take_end.Goals as goal

pub loop-init : goal.loop-init
loop-init g c =
    let r = g.R.Recogniser in
    let s = c.args.recogniser.now in
    (record { same = refl; order = λ o. o; counted = (0, omega arith, omega arith) }, take_start (r.meaning s) (r.orderly s) c.args.cells.now c.args.end c.args.root c.args.number c.args.start, refl)

pub returns-in_err-cell : goal.returns-in_err-cell
returns-in_err-cell g c =
    let r = g.R.Recogniser in
    let s = c.args.recogniser.now in
    let l = c.loop in
    let inv = l.invariant in
    let never : Never c.args.cells.now c.args.root c.args.number = take_no_cell (r.meaning s) (r.orderly s) c.args.cells.now c.args.end c.args.root c.args.number c.args.start l.at l.rest l.counter l.product inv.1 c.in-Some.place c.in-Some.is c.in_err-cell.ensures.value in
    record {
      value = take_refused (r.meaning s) (r.orderly s) c.args.cells.now c.args.end c.args.root c.args.number c.args.start c.from_residual.result never;
      refused = λ _. never;
      walked = ap (option_map (λ _. tt)) c.from_residual.ensures ∙ take_off c.args.end c.args.cells.now c.args.root c.args.number l.counter l.at l.rest inv.2 c.loop-test.true c.in-Some.place c.in-Some.is c.in_err-cell.ensures.value;
      asked = record { same = inv.0.same; order = inv.0.order; counted = costs_refused c.args.cells.now c.args.root c.args.number l.counter (r.tally s) (r.tally l.recogniser) (omega arith) inv.0.counted never };
    }

pub returns-in_err-stretch : goal.returns-in_err-stretch
returns-in_err-stretch g c =
    let r = g.R.Recogniser in
    let s = c.args.recogniser.now in
    let l = c.loop in
    let inv = l.invariant in
    let never : Never c.args.cells.now c.args.root c.args.number = take_no_near (r.meaning s) (r.orderly s) c.args.cells.now c.args.end c.args.root c.args.number c.args.start l.at l.rest l.counter l.product inv.1 c.in-Some.place c.in-Some.is c.in_ok-cell.cell c.in_ok-cell.ensures.value c.sides-sides.result c.sides-sides.ensures.value c.unit-unit.result c.in_err-stretch.ensures.value in
    record {
      value = take_refused (r.meaning s) (r.orderly s) c.args.cells.now c.args.end c.args.root c.args.number c.args.start c.from_residual-in_err-stretch.result never;
      refused = λ _. never;
      walked = ap (option_map (λ _. tt)) c.from_residual-in_err-stretch.ensures ∙ take_off_near c.args.end c.args.cells.now c.args.root c.args.number l.counter l.at l.rest inv.2 c.loop-test.true c.in-Some.place c.in-Some.is c.in_ok-cell.cell c.in_ok-cell.ensures.value c.sides-sides.result.near (ap (λ (v : Sides). v.near) c.sides-sides.ensures.value) c.in_err-stretch.ensures.stored;
      asked = record { same = inv.0.same; order = inv.0.order; counted = costs_refused c.args.cells.now c.args.root c.args.number l.counter (r.tally s) (r.tally l.recogniser) (omega arith) inv.0.counted never };
    }

pub loop-preserved-then-rest-stretch : goal.loop-preserved-then-rest-stretch
loop-preserved-then-rest-stretch g c =
    let r = g.R.Recogniser in
    let s = c.args.recogniser.now in
    let l = c.loop in
    let inv = l.invariant in
    let spent = inv.0.counted in
    (record { same = inv.0.same; order = inv.0.order; counted = (spent.0, omega arith, spent.2) }, take_near (r.meaning s) (r.orderly s) c.args.cells.now c.args.end c.args.root c.args.number c.args.start l.at l.rest l.counter l.product inv.1 c.in-Some.place c.in-Some.is c.in_ok-cell.cell c.in_ok-cell.ensures.value c.sides-sides.result c.sides-sides.ensures.value c.unit-unit.result c.in_ok-stretch.stretch c.in_ok-stretch.ensures.value c.if-rest-stretch.true, taking_near c.args.end c.args.cells.now c.args.root c.args.number l.counter l.at l.rest inv.2 c.loop-test.true c.in-Some.place c.in-Some.is c.in_ok-cell.cell c.in_ok-cell.ensures.value c.sides-sides.result.near (ap (λ (v : Sides). v.near) c.sides-sides.ensures.value) c.in_ok-stretch.stretch.size c.in_ok-stretch.ensures.stored c.if-rest-stretch.true)

pub loop-preserved : goal.loop-preserved
loop-preserved g c =
    let r = g.R.Recogniser in
    let s = c.args.recogniser.now in
    let l = c.loop in
    let inv = l.invariant in
    let spent = inv.0.counted in
    let told = c.extend-product.ensures in
    let two = told.asked.counted in
    (record { same = told.asked.same ∙ inv.0.same; order = λ o. told.asked.order (inv.0.order o); counted = (spent.0 + 2, omega arith, omega arith) }, take_far (r.meaning s) (r.orderly s) c.args.cells.now c.args.end c.args.root c.args.number c.args.start l.at l.rest l.counter l.product inv.1 c.in-Some.place c.in-Some.is c.in_ok-cell.cell c.in_ok-cell.ensures.value c.sides-sides.result c.sides-sides.ensures.value c.unit-unit.result c.in_ok-stretch.stretch c.in_ok-stretch.ensures.value (r.meaning l.recogniser) c.extend-product.result c.past-rest.result inv.0.same c.unit-unit.ensures.value (λ o. told.value (inv.0.order o)) c.if-rest-stretch.false c.past-rest.ensures.value, taking_far c.args.end c.args.cells.now c.args.root c.args.number l.counter l.at l.rest inv.2 c.loop-test.true c.in-Some.place c.in-Some.is c.in_ok-cell.cell c.in_ok-cell.ensures.value c.sides-sides.result.near (ap (λ (v : Sides). v.near) c.sides-sides.ensures.value) c.in_ok-stretch.stretch.size c.in_ok-stretch.ensures.stored c.sides-sides.result.far c.past-rest.result c.if-rest-stretch.false (ap (λ (v : Sides). v.far) c.sides-sides.ensures.value) c.past-rest.ensures.value)

pub returns-in_default : goal.returns-in_default
returns-in_default g c =
    let r = g.R.Recogniser in
    let s = c.args.recogniser.now in
    let l = c.loop in
    let inv = l.invariant in
    record {
      value = take_done (r.meaning s) (r.orderly s) c.args.cells.now c.args.end c.args.root c.args.number c.args.start l.at l.rest l.counter l.product inv.1 c.in_default.is;
      refused = λ e. absurd (none-some (sym e));
      walked = take_all c.args.end c.args.cells.now c.args.root c.args.number l.counter l.at l.rest inv.2 (omega arith) c.in_default.is;
      asked = record { same = inv.0.same; order = inv.0.order; counted = take_costs (r.meaning s) (r.orderly s) c.args.cells.now c.args.end c.args.root c.args.number c.args.start l.at l.rest l.counter l.product inv.1 (r.tally s) (r.tally l.recogniser) c.in_default.is (omega arith) inv.0.counted };
    }

pub returns-in-None : goal.returns-in-None
returns-in-None g c =
    let r = g.R.Recogniser in
    let s = c.args.recogniser.now in
    let l = c.loop in
    let inv = l.invariant in
    record {
      value = take_done (r.meaning s) (r.orderly s) c.args.cells.now c.args.end c.args.root c.args.number c.args.start l.at l.rest l.counter l.product inv.1 c.in-None.is;
      refused = λ e. absurd (none-some (sym e));
      walked = take_all c.args.end c.args.cells.now c.args.root c.args.number l.counter l.at l.rest inv.2 (omega arith) c.in-None.is;
      asked = record { same = inv.0.same; order = inv.0.order; counted = take_costs (r.meaning s) (r.orderly s) c.args.cells.now c.args.end c.args.root c.args.number c.args.start l.at l.rest l.counter l.product inv.1 (r.tally s) (r.tally l.recogniser) c.in-None.is (omega arith) inv.0.counted };
    }

pub returns-in-Some-at : goal.returns-in-Some-at
returns-in-Some-at g c =
    let r = g.R.Recogniser in
    let s = c.args.recogniser.now in
    let l = c.loop in
    let inv = l.invariant in
    let never : Never c.args.cells.now c.args.root c.args.number = take_no_deeper (r.meaning s) (r.orderly s) c.args.cells.now c.args.end c.args.root c.args.number c.args.start l.at l.rest l.counter l.product inv.1 c.in-Some-at.field-0 c.in-Some-at.is (omega arith) in
    record {
      value = take_refused (r.meaning s) (r.orderly s) c.args.cells.now c.args.end c.args.root c.args.number c.args.start None never;
      refused = λ _. never;
      walked = take_deep c.args.end c.args.cells.now c.args.root c.args.number l.counter l.at l.rest inv.2 (omega arith) c.in-Some-at.field-0 c.in-Some-at.is;
      asked = record { same = inv.0.same; order = inv.0.order; counted = costs_refused c.args.cells.now c.args.root c.args.number l.counter (r.tally s) (r.tally l.recogniser) (omega arith) inv.0.counted never };
    }
