use Rattle.edits_tests.specs.Free.{KeepsAllButTheLast}
use Rattle.edits_tests.proofs.sheets.Sheet.edit.Given as goal

abbrev pub invariant-loop-given : goal.invariant-loop-given
invariant-loop-given l = KeepsAllButTheLast l.fn.free.items l.free.items
