use Rattle.calls.proofs.Running.{goes_on}
use Rattle.calls.proofs.perform.perform.Goals as goal

pub returns-clause-runs : goal.returns-clause-runs
returns-clause-runs g c =
    let r = g.R.Recogniser in
    goes_on r.meaning r.orderly r.tally c.args.records.now c.dispatch.new.records c.args.cells.now c.dispatch.new.cells c.args.recogniser.now c.dispatch.new.recogniser c.args.call c.dispatch.result c.dispatch.ensures.called
