use Rattle.std.proofs.Common.{rules, tests}
use Rattle.checks.proofs.Chains.{all_of_range}
use Rattle.table.specs.Checks.{member_fits}
use Rattle.table.proofs.data.TableData.members_fit.Goals as goal

pub returns : goal.returns
returns c = record { value = all_of_range 8 (member_fits c.args.self.now) _ _ _ c.all.ensures.ran (cc) (λ x b q k. search (rules, tests)) }
