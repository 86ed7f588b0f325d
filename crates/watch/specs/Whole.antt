-- All that is written of a script: the listing of its run under panel 1, then of that under panel 2.
use Rattle.std.specs.Prelude.{◌≡◌, ℕ, ◌++◌, codes, decimal}
use Rattle.monoid.specs.Meaning.{Meaning}
use Rattle.panels.specs.Panels.{panel_one, panel_two}
use Rattle.script.specs.Parts.{Bytes}
use Rattle.listing.specs.Answers.{ended}
use Rattle.listing.specs.Endings.{ending_number}
use Rattle.listing.specs.Listings.{Run, run, lamps_by}

abbrev pub panel_line : ℕ → Bytes
panel_line panel = ended (codes "panel," ++ decimal panel)

abbrev pub end_line : ℕ → ℕ → Bytes
end_line number lines = ended (codes "end," ++ (decimal number ++ (codes "," ++ decimal lines)))

-- the number of a run's ending, the lines that it worked, and the bytes that it wrote
pub record Tells (r : Run) (number lines : ℕ) (bytes : Bytes) : Type 0 where
  pub number_is : number ≡ ending_number r.ending
  pub lines_are : lines ≡ r.lines
  pub bytes_are : bytes ≡ r.bytes

-- a run's panel, its answers, how it ended, and the lines that it worked
unfoldable pub told : ℕ → Run → Bytes
told panel r = panel_line panel ++ (r.bytes ++ end_line (ending_number r.ending) r.lines)

-- a script's run under a panel that means `m`, over so many cells and bytes of output
abbrev pub run_listing : {E : Type 0} → ℕ → Meaning E → ℕ → ℕ → Bytes → Bytes
run_listing panel m capacity room script = told panel (run (lamps_by m) capacity room script)

-- over 512 cells and 65,536 bytes
unfoldable pub panel_listing : {E : Type 0} → ℕ → Meaning E → Bytes → Bytes
panel_listing panel m script = run_listing panel m 512 65536 script

unfoldable pub whole_listing : Bytes → Bytes
whole_listing script = panel_listing 1 panel_one script ++ panel_listing 2 panel_two script
