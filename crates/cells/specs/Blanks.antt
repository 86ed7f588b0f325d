-- Cells that hold no row.
use Rattle.std.specs.Prelude.{None}
use Rattle.rows.specs.declared.kind.Kind.TheVariants.{Blank}
use Rattle.cells.specs.declared.cell.Cell.{Cell}

-- no row under it, and no links
abbrev pub blank : {E : Type 0} → E → Cell E
blank product = record { kind = Blank; left = None; right = None; height = 0; size = 0; product = product }
