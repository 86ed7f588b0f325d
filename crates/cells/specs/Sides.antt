-- The two sides of a row, and its links by side.
use Rattle.std.specs.Prelude.{ℕ, Option}
use Rattle.cells.specs.declared.cell.Cell.{Cell}
use Rattle.cells.specs.declared.links.Links.{Links}
use Rattle.cells.specs.declared.links.Side.{Side}
use Rattle.cells.specs.declared.links.Side.TheVariants.{Left, Right}

abbrev pub other : Side → Side
other Left = Right
other Right = Left

abbrev pub at : Links → Side → Option ℕ
at links Left = links.left
at links Right = links.right

-- with another link on one side
abbrev pub with_link : Links → Side → Option ℕ → Links
with_link links Left link = record { left = link; right = links.right }
with_link links Right link = record { left = links.left; right = link }

-- the two links that a cell holds
abbrev pub links_of : {E : Type 0} → Cell E → Links
links_of c = record { left = c.left; right = c.right }
