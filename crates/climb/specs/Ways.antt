-- Ways down from a root.
use Rattle.std.specs.Prelude.{◌≡◌, ℕ, ◌+◌, ◌≤◌, List, length, replicate, take, slice_set}
use Rattle.cells.specs.declared.links.Side.{Side}
use Rattle.cells.specs.declared.links.Side.TheVariants.{Right}
use Rattle.cells.specs.Descents.{most_depth}
use Rattle.climb.specs.declared.way.Step.{Step}
use Rattle.climb.specs.declared.way.Way.{Way}

-- what stands where no row was passed
abbrev pub no_step : Step
no_step = record { place = 0; side = Right }

abbrev pub no_way : Way
no_way = record { steps = replicate most_depth no_step; depth = 0 }

-- the stack has room for the most depth
abbrev pub Fitting : Way → Type 0
Fitting w = length w.steps ≡ most_depth

-- one row more
abbrev pub pushed : Way → ℕ → Side → Way
pushed w place side = record { steps = slice_set w.steps w.depth (record { place = place; side = side }); depth = w.depth + 1 }

-- the steps are those that the way counts, and there is room for them
pub record Taken (w : Way) (steps : List Step) : Type 0 where
  pub room : w.depth ≤ most_depth
  pub long : length steps ≡ w.depth
  pub first : steps ≡ take w.depth w.steps
