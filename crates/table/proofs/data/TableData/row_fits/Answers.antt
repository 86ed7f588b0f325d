use Rattle.std.proofs.Common.{rules, tests}
use Rattle.checks.proofs.Chains.{all_of_range}
use Rattle.table.specs.Checks.{product_fits}
use Rattle.table.proofs.data.TableData.row_fits.Goals as goal

pub returns : goal.returns
returns c = record { value = all_of_range c.args.self.now.size (product_fits c.args.self.now c.args.left) _ _ _ c.all.ensures.ran (cc) (λ x b q k. search (rules, tests)) }
