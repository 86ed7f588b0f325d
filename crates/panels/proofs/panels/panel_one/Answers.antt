use Rattle.std.proofs.Common.{◌∙◌, ap₂, lit<}
use Rattle.automaton.specs.Meanings.{automaton_meaning}
use Rattle.counter.specs.Meanings.{counter_meaning}
use Rattle.layers.specs.SideBySide.{side_by_side}
use Rattle.layers.specs.Not.{not_meaning}
use Rattle.panels.specs.Sayings.{Outside, Pages, Summarised, NotesApart}
use Rattle.panels.specs.Panels.{summaries_mean, one_means}
use Rattle.panels.proofs.Saying.{passed_on}
use Rattle.panels.proofs.panels.panel_one.Goals as goal

pub returns-clause-meaning : goal.returns-clause-meaning
returns-clause-meaning c = c.new.ensures.meaning ∙ ap₂ side_by_side (c.new-summaries.ensures.meaning ∙ ap₂ side_by_side c.closed_pages.ensures.meaning c.summary.ensures.meaning) c.notes.ensures.meaning

pub returns-clause-says : goal.returns-clause-says
returns-clause-says c =
    let summaries = c.new-summaries.ensures.languages in
    let whole = c.new.ensures.languages in
    let pair = c.closed_pages.result in
    let three = c.new-summaries.result in
    let m = one_means c.new.result in
    let o = side_by_side (automaton_meaning pair.left) (counter_meaning pair.right) in
    let n = side_by_side (side_by_side (automaton_meaning three.left.left) (counter_meaning three.left.right)) (summaries_mean three.right) in
    record {
      closed = passed_on m 0 n 0 Outside (whole.left 0 (lit< tt)) (passed_on n 0 o 0 Outside (summaries.left 0 (lit< tt)) c.closed_pages.ensures.says.closed);
      page = passed_on m 1 n 1 Pages (whole.left 1 (lit< tt)) (passed_on n 1 o 1 Pages (summaries.left 1 (lit< tt)) c.closed_pages.ensures.says.page);
      summary = passed_on m 2 n 2 Summarised (whole.left 2 (lit< tt)) (passed_on n 2 (summaries_mean c.summary.result) 0 Summarised (summaries.right 0 (lit< tt)) c.summary.ensures.language);
      notes = passed_on m 3 (not_meaning (automaton_meaning c.notes.result.below)) 0 NotesApart (whole.right 0 (lit< tt)) c.notes.ensures.language;
    }
