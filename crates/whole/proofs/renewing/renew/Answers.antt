use Rattle.std.proofs.Common.{refl}
use Rattle.whole.proofs.Refreshing.{none_asked}
use Rattle.whole.proofs.Recomputing.{renew_no_place, renewed}
use Rattle.whole.proofs.renewing.renew.Goals as goal

pub returns-in_err-place-clause-value : goal.returns-in_err-place-clause-value
returns-in_err-place-clause-value g c =
    let r = g.R.Recogniser in
    let s = c.args.recogniser.now in
    renew_no_place (r.meaning s) (r.orderly s) c.args.cells.now c.args.cells.now c.args.root c.args.rank c.in_err-place.ensures.value c.from_residual.result

pub returns-in_err-place-clause-asked : goal.returns-in_err-place-clause-asked
returns-in_err-place-clause-asked g c =
    let r = g.R.Recogniser in
    let s = c.args.recogniser.now in
    record { same = refl; order = λ o. o; counted = none_asked c.from_residual.result (r.tally s) c.from_residual.ensures }

pub returns-clause-value : goal.returns-clause-value
returns-clause-value g c =
    let r = g.R.Recogniser in
    let s = c.args.recogniser.now in
    let told = c.refresh.ensures in
    renewed (r.meaning s) (r.orderly s) c.args.cells.now c.refresh.new.cells c.args.root c.args.rank c.in_ok-place.place c.refresh.result c.in_ok-place.ensures.value told.value

pub returns-clause-asked : goal.returns-clause-asked
returns-clause-asked g c =
    let told = c.refresh.ensures in
    told.asked
