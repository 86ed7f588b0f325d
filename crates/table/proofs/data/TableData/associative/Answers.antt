use Rattle.std.proofs.Common.{rules, tests}
use Rattle.checks.proofs.Chains.{all_of_range}
use Rattle.table.specs.Checks.{associates_from}
use Rattle.table.proofs.data.TableData.associative.Goals as goal

pub returns : goal.returns
returns c = record { value = all_of_range c.args.self.now.size (associates_from c.args.self.now) _ _ _ c.all.ensures.ran (cc) (λ x b q k. search (rules, tests)) }
