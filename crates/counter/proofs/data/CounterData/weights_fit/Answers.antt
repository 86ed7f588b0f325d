use Rattle.std.proofs.Common.{rules, tests, nat_lt}
use Rattle.checks.proofs.Chains.{all_of_slice}
use Rattle.counter.proofs.data.CounterData.weights_fit.Goals as goal

pub returns : goal.returns
returns c =
    let d = c.args.self.now in
    record { value = all_of_slice 8 (λ w. nat_lt w d.modulus) 0 d.weights _ _ _ c.all.ensures.ran (cc) (cc) (λ x b q k. search (rules, tests)) }
