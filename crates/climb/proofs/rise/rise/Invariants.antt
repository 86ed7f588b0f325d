use Rattle.std.proofs.Common.{◌≡◌, ◌-◌, ◌*◌, ◌^◌, ◌<◌, length, List}
use Rattle.cells.specs.Asking.{Due, cost, Asks}
use Rattle.cells.specs.Trees.{Tree, Stands, link, height, size, Distinct}
use Rattle.climb.specs.Frames.{Frame, plug, Along}
use Rattle.climb.specs.Rises.{Around}
use Rattle.climb.proofs.Rising.{Climbing}
use Rattle.climb.proofs.rise.rise.Given as goal

abbrev pub invariant-loop-step : goal.invariant-loop-step
invariant-loop-step g l =
    let meaning = g.R.Recogniser.meaning in
    let orderly = g.R.Recogniser.orderly in
    record {
      asked : Asks meaning orderly g.R.Recogniser.tally (cost l.mode (6 * length l.yielded)) l.initial.recogniser l.recogniser;
      climbing : (up : List (Frame g.row.R-Element.Denot)) (s : Tree g.row.R-Element.Denot) → Along l.way up → Around l.initial.cells up → Stands l.initial.cells s → l.initial.link ≡ link s → Distinct (plug up s) → height (plug up s) < 2 ^ 8 → size (plug up s) < 2 ^ 16 → Climbing (meaning l.initial.recogniser) (Due l.mode (orderly l.initial.recogniser)) l.initial.cells up s l.way.steps l.cells l.link (l.way.depth - length l.yielded);
    }
