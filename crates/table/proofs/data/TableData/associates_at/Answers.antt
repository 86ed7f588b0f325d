use Rattle.std.proofs.Common.{rules, tests}
use Rattle.checks.proofs.Chains.{all_of_range}
use Rattle.table.specs.Checks.{associates}
use Rattle.table.proofs.data.TableData.associates_at.Goals as goal

pub returns : goal.returns
returns c = record { value = all_of_range c.args.self.now.size (associates c.args.self.now c.args.x c.args.y) _ _ _ c.all.ensures.ran (cc) (λ x b q k. search (rules, tests)) }
