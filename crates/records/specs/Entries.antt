-- A sheet's record as a sheet of the plain book, by its number of rows.
use Rattle.std.specs.Prelude.{ℕ, zero, suc, cond, List, [], ◌∷◌, map, None, ◌==◌}
use Rattle.plain.specs.declared.state.State.TheVariants.{Settled}
use Rattle.plain.specs.Sheets.{Sheet}
use Rattle.records.specs.declared.record.Record.{Record}

abbrev pub entry : Record → Sheet ℕ
entry r = record { tag = r.tag; state = r.state; rows = r.rows }

abbrev pub entries : List Record → List (Sheet ℕ)
entries rs = map entry rs

-- where the record of a tag stands, or how many there are
abbrev pub place : ℕ → List Record → ℕ
place tag [] = 0
place tag (r ∷ rs) = cond (r.tag == tag) 0 (suc (place tag rs))

-- a record that is no sheet's
abbrev pub blank : Record
blank = record { tag = 0; state = Settled; rows = 0; root = None }

-- the list without what stands at a place
abbrev pub without_place : {X : Type 0} → ℕ → List X → List X
without_place i [] = []
without_place zero (x ∷ xs) = xs
without_place (suc i) (x ∷ xs) = x ∷ without_place i xs
