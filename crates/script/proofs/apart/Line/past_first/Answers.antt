use Rattle.std.proofs.Common.{sym, ap, ◌∙◌}
use Rattle.script.specs.Fields.{comma}
use Rattle.script.specs.Parts.{upto, past}
use Rattle.script.proofs.Parting.{field_second, field_third, field_fourth}
use Rattle.script.proofs.apart.Line.past_first.Goals as goal

pub returns : goal.returns
returns c =
    let text = c.args.self.text.now in
    let second = c.requires.rest in
    let third = c.cut_field.ensures.rest ∙ ap (past comma) second in
    let fourth = c.cut_field-2.ensures.rest ∙ ap (past comma) third in
    record {
      second = c.cut_field.ensures.first ∙ ap (upto comma) second ∙ sym (field_second text);
      third = c.cut_field-2.ensures.first ∙ ap (upto comma) third ∙ sym (field_third text);
      fourth = c.cut_field-3.ensures.first ∙ ap (upto comma) fourth ∙ sym (field_fourth text);
    }
