use Rattle.std.proofs.Common.{rules, tests}
use Rattle.checks.proofs.Chains.{all_of_range}
use Rattle.automaton.specs.Checks.{fits_at}
use Rattle.automaton.proofs.data.AutomatonData.entries_fit.Goals as goal

pub returns : goal.returns
returns c = record { value = all_of_range 16 (fits_at c.args.self.now) _ _ _ c.all.ensures.ran (cc) (λ x b q k. search (rules, tests)) }
