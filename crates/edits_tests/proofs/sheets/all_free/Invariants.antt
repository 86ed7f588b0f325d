use Rattle.std.proofs.Common.{◌≡◌, take}
use Rattle.edits_tests.proofs.sheets.all_free.Given as goal

abbrev pub invariant-loop-place : goal.invariant-loop-place
invariant-loop-place l = l.free.items ≡ take l.place-index l.place-items
