-- The worked examples of the panels' lamps and of the heights of trees, in one group.
use Rattle.panels.specs.Worked.{Worked as PanelsWorked}
use Rattle.heights.specs.Heights.{Worked as HeightsWorked}

pub record Examples : Type 0 where
  pub panels : PanelsWorked
  pub heights : HeightsWorked
