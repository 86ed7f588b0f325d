use Rattle.std.proofs.Common.{length, ap, ◌∙◌, rules, tests}
use Rattle.std.proofs.lemmas.Iterator.Consumers.{count_from_yields_List}
use Rattle.std.proofs.lemmas.List.{length-map}
use Rattle.script.specs.Lines.{lines}
use Rattle.script.proofs.Parting.{marks, yields_marks}
use Rattle.script.proofs.line.count_lines.Goals as goal

pub returns-clause-value : goal.returns-clause-value
returns-clause-value c =
    count_from_yields_List c.split_inclusive.result c.count.result c.count.ensures.ran (yields_marks _ c.split_inclusive.result _ c.split_inclusive.ensures.closure (λ x b q k. search (rules, tests)))
    ∙ ap (λ t. length (marks t)) c.split_inclusive.ensures.rest
    ∙ length-map (lines c.args.script.now) (λ line. 0)
