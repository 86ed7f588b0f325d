use Rattle.counter.proofs.Wording.{says}
use Rattle.counter.proofs.data.CounterData.check.Goals as goal

pub returns-clause-says : goal.returns-clause-says
returns-clause-says c = says c.args.self.now c.first_no.result c.first_no.ensures.value
