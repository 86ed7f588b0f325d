use Rattle.std.proofs.Common.{◌≡◌, ℕ, ◌-◌, ◌*◌, ◌^◌, ◌<◌, length, List, Some}
use Rattle.rows.specs.declared.kind.Kind.{Kind}
use Rattle.cells.specs.Asking.{Due, cost, Asks}
use Rattle.cells.specs.Trees.{Tree, Stands, link, height, size, Distinct}
use Rattle.climb.specs.Frames.{Frame, plug, Along}
use Rattle.edits.specs.Replaces.{Replaced}
use Rattle.edits.proofs.Renewing.{Renewing}
use Rattle.edits.proofs.replace.renew.Given as goal

abbrev pub invariant-loop-step : goal.invariant-loop-step
invariant-loop-step g l =
    let meaning = g.R.Recogniser.meaning in
    let orderly = g.R.Recogniser.orderly in
    record {
      asked : Asks meaning orderly g.R.Recogniser.tally (cost l.mode (2 * length l.yielded)) l.initial.recogniser l.recogniser;
      renewing : (up : List (Frame g.row.R-Element.Denot)) (was sub : Tree g.row.R-Element.Denot) (n : ℕ) (k : Kind) → Along l.way up → Replaced was n k sub → Stands l.initial.cells (plug up sub) → Some l.initial.top ≡ link sub → Distinct (plug up sub) → height (plug up sub) < 2 ^ 8 → size (plug up sub) < 2 ^ 16 → Renewing (meaning l.initial.recogniser) (Due l.mode (orderly l.initial.recogniser)) l.initial.cells up was sub n k l.way.steps l.cells l.top (l.way.depth - length l.yielded);
    }
