use Rattle.std.proofs.Common.{◌≡◌, ◌+◌, ◌≤◌, ◌∷◌, List, length, Some}
use Rattle.cells.specs.declared.links.Side.TheVariants.{Right}
use Rattle.cells.specs.Trees.{Tree, Stands, link, height}
use Rattle.climb.specs.Frames.{Frame, spot, side, Along}
use Rattle.edits.proofs.Descending.{Lowering}
use Rattle.edits.proofs.Sinking.{Sinking}
use Rattle.edits.proofs.find.find_next.Given as goal

abbrev pub invariant-loop : goal.invariant-loop
invariant-loop g l = record {
  deep : l.way.depth ≡ l.counter;
  lowering : Lowering l.cells l.row l.right l.counter l.way l.place;
  sinking : (f : Frame g.row.E.Denot) (up : List (Frame g.row.E.Denot)) (r : Tree g.row.E.Denot) → spot f ≡ l.row.place → side f ≡ Right → Along l.row.way up → Stands l.cells r → Some l.right ≡ link r → height r + length up + 1 ≤ 24 → Sinking l.cells (f ∷ up) r l.place l.way;
}
