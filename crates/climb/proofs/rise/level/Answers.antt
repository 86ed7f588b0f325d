use Rattle.std.proofs.Common.{ap, ◌∙◌}
use Rattle.cells.specs.declared.links.Links.{Links}
use Rattle.cells.specs.Asking.{Due, cost}
use Rattle.cells.specs.Sides.{with_link}
use Rattle.cells.proofs.Asking.{asks_none}
use Rattle.climb.proofs.Lifting.{level_no_cell, leveled}
use Rattle.climb.proofs.rise.level.Goals as goal

pub returns-in_err-cell : goal.returns-in_err-cell
returns-in_err-cell g c =
    let before = c.args.recogniser.now in
    record {
      value = level_no_cell (g.R.Recogniser.meaning before) (Due c.args.mode (g.R.Recogniser.orderly before)) c.args.cells.now c.args.cells.now c.args.step.place c.args.link c.from_residual.result c.args.step.side c.in_err-cell.ensures.value;
      asks = asks_none (cost c.args.mode 6) before;
    }

pub returns : goal.returns
returns g c =
    let before = c.args.recogniser.now in
    record {
      value = leveled (g.R.Recogniser.meaning before) (Due c.args.mode (g.R.Recogniser.orderly before)) c.args.cells.now c.join.new.cells c.args.step.place c.args.link c.join.result c.in_ok-cell.cell c.in_ok-cell.ensures.value c.args.step.side c.with-links.result (c.with-links.ensures.value ∙ ap (λ (v : Links). with_link v c.args.step.side c.args.link) c.links.ensures.value) c.join.ensures.value;
      asks = c.join.ensures.asks;
    }
