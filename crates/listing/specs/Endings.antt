-- The number of each ending of a run.
use Rattle.std.specs.Prelude.{ℕ}
use Rattle.listing.specs.declared.ending.Ending.{Ending}
use Rattle.listing.specs.declared.ending.Ending.TheVariants.{Complete, OutputFull, ScriptTooLong}

abbrev pub ending_number : Ending → ℕ
ending_number Complete = 0
ending_number OutputFull = 37
ending_number ScriptTooLong = 38
