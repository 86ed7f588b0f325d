use Rattle.std.proofs.Common.{ap, ◌∙◌}
use Rattle.script.specs.Lines.{first_line}
use Rattle.script.specs.Questions.{fault_in}
use Rattle.script.specs.Said.{said}
use Rattle.script.specs.Seen.{seen}
use Rattle.script.proofs.Asking.{first_asked}
use Rattle.script.proofs.Joining.{whole_line}
use Rattle.script.proofs.Parting.{passed}
use Rattle.script.proofs.Placing.{placed}
use Rattle.script.proofs.Reading.{read_back}
use Rattle.script.proofs.Saying.{only_sayable}
use Rattle.script.proofs.line.next_line.Goals as goal

pub returns : goal.returns
returns c =
    let script = c.args.script.now in
    let number = c.args.number in
    let text = seen script c.args.cursor.now in
    record {
      value = c.read_line.ensures.value;
      first = ap fault_in c.read_line.ensures.value ∙ first_asked number (first_line text);
      faithful = record {
        back = λ call sayable e. c.read_line.ensures.value ∙ ap (said number) e ∙ read_back number call sayable;
        sayable = only_sayable number (first_line text) c.read_line.result c.read_line.ensures.value;
        place = placed number (first_line text) c.read_line.result c.read_line.ensures.value;
      };
      fields = whole_line (first_line text);
      after = passed text (seen script c.read_line.new.cursor) c.read_line.ensures.after;
      same = c.read_line.ensures.same;
    }
