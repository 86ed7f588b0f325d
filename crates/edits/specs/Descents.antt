-- What the walks to a row, to a gap and to the next row answer on any cells.
use Rattle.std.specs.Prelude.{◌≡◌, ℕ, ◌+◌, ◌-◌, cond, List, Some, None, Option, nat_le, nat_lt, ◌==◌}
use Rattle.std.specs.List.{slice_get}
use Rattle.std.specs.Option.{option_map, option_and_then}
use Rattle.cells.specs.declared.cell.Cell.{Cell}
use Rattle.cells.specs.declared.links.Side.{Side}
use Rattle.cells.specs.declared.links.Side.TheVariants.{Left, Right}
use Rattle.cells.specs.Sides.{links_of}
use Rattle.cells.specs.Descents.{most_depth, Move, on, ends, needs, walk, stored_size}
use Rattle.climb.specs.declared.way.Way.{Way}
use Rattle.climb.specs.Ways.{no_way, pushed}
use Rattle.edits.specs.declared.find.Aim.{Aim}
use Rattle.edits.specs.declared.find.Aim.TheVariants.{Row, Gap}
use Rattle.edits.specs.declared.find.Fork.{Fork}
use Rattle.edits.specs.declared.find.Found.{Found}
use Rattle.edits.specs.declared.find.Reached.{Reached}

-- the row at a place, as the cells store it; none where a cell was not handed over
abbrev pub stored_fork : {E : Type 0} → List (Cell E) → ℕ → Option Fork
stored_fork cells place = option_and_then (λ (c : Cell _). option_map (λ before. record { links = links_of c; before = before }) (stored_size cells c.left)) (slice_get cells place)

-- the side on which a walk goes on, with so many rows before its aim and before the row at hand; none at its aim
abbrev pub turn : Aim → ℕ → ℕ → Option Side
turn Row index before = cond (index == before) None (cond (nat_lt index before) (Some Left) (Some Right))
turn Gap index before = cond (nat_le index before) (Some Left) (Some Right)

-- where a walk is: its way so far, the link below, and how many rows are still before its aim
pub record Walker : Type 0 where
  pub way : Way
  pub at : Option ℕ
  pub rest : ℕ

abbrev pub passes : Walker → ℕ → Fork → Option Side → Move Walker Reached
passes w place f None = ends (Some (record { way = w.way; place = Some place }))
passes w place f (Some Left) = on (record { way = pushed w.way place Left; at = f.links.left; rest = w.rest })
passes w place f (Some Right) = on (record { way = pushed w.way place Right; at = f.links.right; rest = w.rest - f.before - 1 })

abbrev pub move_at : {E : Type 0} → Aim → List (Cell E) → Walker → Option ℕ → Move Walker Reached
move_at aim cells w None = ends (Some (record { way = w.way; place = None }))
move_at aim cells w (Some place) = needs (stored_fork cells place) (λ f. passes w place f (turn aim w.rest f.before))

abbrev pub move : {E : Type 0} → Aim → List (Cell E) → Walker → Move Walker Reached
move aim cells w = move_at aim cells w w.at

-- where a walk from the root ends
abbrev pub walked : {E : Type 0} → Aim → List (Cell E) → Option ℕ → ℕ → Option Reached
walked aim cells root index = walk (move aim cells) most_depth (record { way = no_way; at = root; rest = index })

abbrev pub found : {E : Type 0} → List (Cell E) → Option ℕ → ℕ → Option Found
found cells root index = option_and_then (λ (w : Reached). option_map (λ place. record { way = w.way; place = place }) w.place) (walked Row cells root index)

abbrev pub found_gap : {E : Type 0} → List (Cell E) → Option ℕ → ℕ → Option Way
found_gap cells root index = option_map (λ (w : Reached). w.way) (walked Gap cells root index)

-- down to the left as far as there is a row
abbrev pub lower_at : Found → Option ℕ → Move Found Found
lower_at w None = ends (Some w)
lower_at w (Some next) = on (record { way = pushed w.way w.place Left; place = next })

abbrev pub lower : {E : Type 0} → List (Cell E) → Found → Move Found Found
lower cells w = needs (slice_get cells w.place) (λ (c : Cell _). lower_at w c.left)

-- the first row on the right of a row, on a way that goes on from that row's
abbrev pub found_next : {E : Type 0} → List (Cell E) → Found → ℕ → Option Found
found_next cells row right = walk (lower cells) (most_depth - (row.way.depth + 1)) (record { way = pushed row.way row.place Right; place = right })

-- the row whose cell a strike frees: the row itself where nothing is on its right, else the next one
abbrev pub freed_from : {E : Type 0} → List (Cell E) → Found → Option ℕ → Option Found
freed_from cells row None = Some row
freed_from cells row (Some right) = found_next cells row right

abbrev pub freed : {E : Type 0} → List (Cell E) → Option ℕ → ℕ → Option Found
freed cells root index = option_and_then (λ (row : Found). option_and_then (λ (c : Cell _). freed_from cells row c.right) (slice_get cells row.place)) (found cells root index)

-- where its walk has no answer, an edit has none, and writes nothing
abbrev pub Refuses : {E A B : Type 0} → Option A → List (Cell E) → List (Cell E) → Option B → Type 0
Refuses walked before after out = walked ≡ None → (out ≡ None) × (after ≡ before)
