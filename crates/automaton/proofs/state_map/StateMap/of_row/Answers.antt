use Rattle.std.proofs.Common.{rules, tests, ap}
use Rattle.checks.proofs.Chains.{made_by_calls}
use Rattle.automaton.specs.declared.state_map.StateMap.{StateMap}
use Rattle.automaton.specs.Maps.{moved}
use Rattle.automaton.proofs.state_map.StateMap.of_row.Goals as goal

pub returns : goal.returns
returns c = record { value = ap {B = StateMap} (λ to. record { to = to }) (made_by_calls (moved c.args.data.now c.args.kind) 0 c.from_fn.result (λ s t q called. search (rules, tests)) 16 c.from_fn.ensures.items) }
