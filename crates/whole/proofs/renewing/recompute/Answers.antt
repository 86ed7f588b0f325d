use Rattle.std.proofs.Common.{◌≡◌, ◌+◌, ◌*◌, refl, ◌∙◌, arith}
use Rattle.cells.proofs.Lookup.{some_one}
use Rattle.whole.proofs.Baring.{reached_none, reached_more}
use Rattle.whole.proofs.Recomputing.{going_start, no_size, going_no, going_more, going_done, costs_done, costs_refused, recompute_refused}
use Rattle.whole.proofs.renewing.recompute.Goals as goal

pub loop-done-init : goal.loop-done-init
loop-done-init g c =
    let r = g.R.Recogniser in
    let s = c.args.recogniser.now in
    (record { same = refl; order = λ o. o; counted = omega arith }, going_start (r.meaning s) (r.orderly s) c.args.cells.now c.args.root, reached_none c.args.cells.now c.args.root)

pub returns-in_err-rows-clause-value : goal.returns-in_err-rows-clause-value
returns-in_err-rows-clause-value g c =
    let r = g.R.Recogniser in
    let s = c.args.recogniser.now in
    let never = no_size c.args.cells.now c.args.root c.in_err-rows.ensures.value in
    recompute_refused (r.meaning s) (r.orderly s) c.args.cells.now c.args.root c.args.cells.now c.from_residual.result never

pub returns-in_err-rows-clause-asked : goal.returns-in_err-rows-clause-asked
returns-in_err-rows-clause-asked g c =
    let r = g.R.Recogniser in
    let s = c.args.recogniser.now in
    let never = no_size c.args.cells.now c.args.root c.in_err-rows.ensures.value in
    record { same = refl; order = λ o. o; counted = costs_refused (r.meaning s) (r.orderly s) c.args.cells.now c.args.root (r.tally s) (r.tally s) (0, omega arith, omega arith) never }

pub returns-in_err-renew-clause-value : goal.returns-in_err-renew-clause-value
returns-in_err-renew-clause-value g c =
    let r = g.R.Recogniser in
    let s = c.args.recogniser.now in
    let l = c.loop-done in
    let inv = l.invariant in
    let told = c.in_err-renew.ensures in
    let never = going_no (r.meaning s) (r.orderly s) c.args.cells.now c.args.root c.in_ok-rows.rows c.in_ok-rows.ensures.value (r.meaning l.recogniser) (r.orderly l.recogniser) inv.0.same inv.0.order l.cells c.renew.new.cells l.done (omega arith) inv.1 told.value in
    recompute_refused (r.meaning s) (r.orderly s) c.args.cells.now c.args.root c.renew.new.cells c.from_residual-in_err-renew.result never

pub returns-in_err-renew-clause-asked : goal.returns-in_err-renew-clause-asked
returns-in_err-renew-clause-asked g c =
    let r = g.R.Recogniser in
    let s = c.args.recogniser.now in
    let l = c.loop-done in
    let inv = l.invariant in
    let told = c.in_err-renew.ensures in
    let spent = told.asked.counted.always in
    let never = going_no (r.meaning s) (r.orderly s) c.args.cells.now c.args.root c.in_ok-rows.rows c.in_ok-rows.ensures.value (r.meaning l.recogniser) (r.orderly l.recogniser) inv.0.same inv.0.order l.cells c.renew.new.cells l.done (omega arith) inv.1 told.value in
    record { same = told.asked.same ∙ inv.0.same; order = λ o. told.asked.order (inv.0.order o); counted = costs_refused (r.meaning s) (r.orderly s) c.args.cells.now c.args.root (r.tally s) (r.tally c.renew.new.recogniser) (2 * l.done + spent.0, omega arith, omega arith) never }

pub loop-done-preserved : goal.loop-done-preserved
loop-done-preserved g c =
    let r = g.R.Recogniser in
    let s = c.args.recogniser.now in
    let l = c.loop-done in
    let inv = l.invariant in
    let told = c.in_ok-renew.ensures in
    let asked = inv.0.counted in
    let two = told.asked.counted.made c.in_ok-renew.field-0 refl in (
      record { same = told.asked.same ∙ inv.0.same; order = λ o. told.asked.order (inv.0.order o); counted = omega arith },
      going_more (r.meaning s) (r.orderly s) c.args.cells.now c.args.root c.in_ok-rows.rows c.in_ok-rows.ensures.value (r.meaning l.recogniser) (r.orderly l.recogniser) inv.0.same inv.0.order l.cells c.renew.new.cells l.done (omega arith) inv.1 c.in_ok-renew.field-0 told.value,
      reached_more c.args.cells.now l.cells c.renew.new.cells c.args.root l.done c.in_ok-renew.field-0 inv.2 told.bare told.unreached,
    )

pub returns-clause-value : goal.returns-clause-value
returns-clause-value g c =
    let r = g.R.Recogniser in
    let s = c.args.recogniser.now in
    let l = c.loop-done in
    let inv = l.invariant in
    going_done (r.meaning s) (r.orderly s) c.args.cells.now c.args.root c.in_ok-rows.rows c.in_ok-rows.ensures.value (λ o. g.met.R.Recogniser.lawful s o) l.cells l.done (omega arith) inv.1

pub returns-clause-asked : goal.returns-clause-asked
returns-clause-asked g c =
    let r = g.R.Recogniser in
    let s = c.args.recogniser.now in
    let l = c.loop-done in
    let inv = l.invariant in
    record { same = inv.0.same; order = inv.0.order; counted = costs_done (r.meaning s) (r.orderly s) c.args.cells.now c.args.root c.in_ok-rows.rows c.in_ok-rows.ensures.value (r.tally s) (r.tally l.recogniser) (omega arith) (omega arith) }

pub returns-in_err-renew-clause-bare : goal.returns-in_err-renew-clause-bare
returns-in_err-renew-clause-bare g c = c.in_err-renew.ensures.bare ∙ c.loop-done.invariant.2.kept

pub returns-clause-bare : goal.returns-clause-bare
returns-clause-bare g c = c.loop-done.invariant.2.kept

pub returns-clause-unreached : goal.returns-clause-unreached
returns-clause-unreached g c =
    λ rows n sized any within none.
    let all : c.in_ok-rows.rows ≡ rows = some_one (c.in_ok-rows.ensures.stored ∙ sized) in
    absurd (c.loop-done.invariant.2.all n any (omega arith) none)
