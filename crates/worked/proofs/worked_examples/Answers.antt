use Rattle.panels.proofs.Examples.{worked as panels_worked}
use Rattle.heights.proofs.Highest.{worked as heights_worked}
use Rattle.worked.proofs.worked_examples.Goals as goal

pub returns : goal.returns
returns c = record { worked = record { panels = panels_worked; heights = heights_worked } }
