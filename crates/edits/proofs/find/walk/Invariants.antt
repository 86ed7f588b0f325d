use Rattle.std.proofs.Common.{◌≡◌, ◌+◌, ◌<◌, ◌≤◌}
use Rattle.cells.specs.Trees.{Tree, Stands, link, height, size}
use Rattle.cells.specs.Descents.{most_depth}
use Rattle.edits.specs.Walks.{spare}
use Rattle.edits.proofs.Descending.{Walking}
use Rattle.edits.proofs.Walking.{Going}
use Rattle.edits.proofs.find.walk.Given as goal

abbrev pub invariant-loop : goal.invariant-loop
invariant-loop g l = record {
  deep : l.way.depth ≡ l.counter;
  walking : Walking l.aim l.cells l.initial.at l.index l.counter l.way l.at l.rest;
  going : (t : Tree g.row.E.Denot) → Stands l.cells t → l.initial.at ≡ link t → height t < most_depth + spare l.aim → l.index + spare l.aim ≤ size t → Going l.cells t l.index (spare l.aim) l.at l.rest l.way;
}
