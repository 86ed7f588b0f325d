use Rattle.std.proofs.Common.{rules, tests, take, ap}
use Rattle.checks.proofs.Chains.{made_by_calls}
use Rattle.edits_tests.proofs.sheets.Free.all.Goals as goal

pub returns : goal.returns
returns c = record { places = ap (take 48) (made_by_calls (λ s. s) 0 c.from_fn.result (λ s t q called. search (rules, tests)) 48 c.from_fn.ensures.items) }
