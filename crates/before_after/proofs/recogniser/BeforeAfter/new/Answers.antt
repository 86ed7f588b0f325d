use Rattle.before_after.specs.Laws.{lawful}
use Rattle.before_after.proofs.Languages.{recognises}
use Rattle.before_after.proofs.recogniser.BeforeAfter.new.Goals as goal

pub returns-clause-laws : goal.returns-clause-laws
returns-clause-laws g c o o' =
    let p = g.met.P.SmallRecogniser in
    let s = g.met.S.SmallRecogniser in
    let before = c.args.before in
    let after = c.args.after in
    lawful (g.met.P.Recogniser.lawful before o) (p.undone before o) (p.sized before) (g.met.S.Recogniser.lawful after o') (s.undone after o') (s.sized after) c.args.marks

pub returns-clause-language : goal.returns-clause-language
returns-clause-language g c o o' =
    let p = g.met.P.SmallRecogniser in
    let s = g.met.S.SmallRecogniser in
    let before = c.args.before in
    let after = c.args.after in
    recognises (g.met.P.Recogniser.lawful before o) (p.undone before o) (p.sized before) (g.met.S.Recogniser.lawful after o') (s.undone after o') (s.sized after) c.args.marks
