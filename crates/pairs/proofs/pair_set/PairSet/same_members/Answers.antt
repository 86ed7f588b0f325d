use Rattle.std.proofs.Common.{ap, ◌∙◌, arith}
use Rattle.std.proofs.lemmas.Bool.{eq-eqb}
use Rattle.pairs.specs.declared.pair_set.PairSet.{PairSet}
use Rattle.pairs.proofs.Pairs.{same_members_lem}
use Rattle.pairs.proofs.pair_set.PairSet.same_members.Goals as goal

pub returns-clause-every : goal.returns-clause-every
returns-clause-every c same =
    let s = c.args.self in
    let t = c.args.other in
    c.eq.ensures ∙ eq-eqb s.bits t.bits (ap (λ (u : PairSet). u.bits) (same_members_lem s t (omega arith) (omega arith) same))
