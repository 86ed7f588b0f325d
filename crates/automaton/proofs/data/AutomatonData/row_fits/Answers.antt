use Rattle.std.proofs.Common.{rules, tests}
use Rattle.checks.proofs.Chains.{all_of_slice}
use Rattle.automaton.specs.States.{is_state}
use Rattle.automaton.proofs.data.AutomatonData.row_fits.Goals as goal

pub returns : goal.returns
returns c = record { value = all_of_slice 8 (is_state c.args.self.now) 0 c.args.row.now _ _ _ c.all.ensures.ran (cc) (cc) (λ x b q k. search (rules, tests)) }
