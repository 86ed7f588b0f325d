use Rattle.std.proofs.Common.{rules}
use Rattle.watch.proofs.Under.{worked_at}
use Rattle.watch.proofs.panel_calls.work_panel.Goals as goal

pub returns-clause-ran : goal.returns-clause-ran
returns-clause-ran g c = let worked = c.work.ensures.worked.1 in search (rules, worked_at, worked)
