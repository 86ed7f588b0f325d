-- The walk to the row of a rank on any cells, move by move.
use Rattle.std.proofs.Common.{◌≡◌, ℕ, ◌+◌, ◌-◌, ◌<◌, ◌≤◌, ◌≢◌, Bool, true, false, cond, leb, eqb, List, Some, None, Option, sym, ap, ◌∙◌, arith}
use Rattle.std.proofs.lemmas.Bool.{le-leb, lt-leb, eq-eqb, ne_eqb}
use Rattle.std.specs.List.{slice_get}
use Rattle.cells.specs.declared.cell.Cell.{Cell}
use Rattle.cells.specs.Descents.{most_depth, Move, on, ends, needs, stored_size}
use Rattle.cells.proofs.Descending.{needs_some, needs_none, Come, come_on, come_end, come_deep}
use Rattle.whole.specs.Descents.{Seeker, seek_past, seek_row, seek, ranked}

module _ {E : Type 0} (cells : List (Cell E)) (root : Option ℕ) (n : ℕ) where
  abbrev pub Sought : ℕ → Option ℕ → ℕ → Type 0
  Sought done at rest = Come (seek cells) most_depth (record { at = root; rest = n }) (most_depth - done) (record { at = at; rest = rest })

  abbrev start : Seeker
  start = record { at = root; rest = n }

  module _ (done : ℕ) (at : Option ℕ) (rest : ℕ) (come : Sought done at rest) where
    abbrev s : Seeker
    s = record { at = at; rest = rest }

    pub sought_deep : 24 ≤ done → None ≡ ranked cells root n
    sought_deep h = come_deep (seek cells) most_depth start (most_depth - done) s (omega arith) come

    module _ (more : done < 24) where
      stop : (out : Option ℕ) → seek cells s ≡ ends out → out ≡ ranked cells root n
      stop out e = come_end (seek cells) most_depth start (most_depth - done) (most_depth - (done + 1)) s (omega arith) come out e

      abbrev there : ℕ → Move Seeker ℕ
      there place = needs (slice_get cells place) (seek_row cells s place)

      pub sought_no_place : at ≡ None → None ≡ ranked cells root n
      sought_no_place e = stop None (needs_none at there (sym e))

      module _ (place : ℕ) (here : at ≡ Some place) where
        pub sought_no_cell : None ≡ slice_get cells place → None ≡ ranked cells root n
        sought_no_cell e = stop None (needs_some at place there (sym here) ∙ needs_none (slice_get cells place) (seek_row cells s place) e)

        module _ (c : Cell E) (read : Some c ≡ slice_get cells place) where
          row : (x : Bool) → eqb rest c.size ≡ x → seek cells s ≡ cond x (ends (Some place)) (needs (stored_size cells c.left) (seek_past s c))
          row x e = needs_some at place there (sym here) ∙ needs_some (slice_get cells place) c (seek_row cells s place) read ∙ ap (λ v. cond v (ends (Some place)) (needs (stored_size cells c.left) (seek_past s c))) e

          pub sought_found : rest ≡ c.size → Some place ≡ ranked cells root n
          sought_found e = stop (Some place) (row true (eq-eqb rest c.size e))

          module _ (past : rest ≢ c.size) where
            pub sought_no_size : None ≡ stored_size cells c.left → None ≡ ranked cells root n
            sought_no_size e = stop None (row false (ne_eqb rest c.size past) ∙ needs_none (stored_size cells c.left) (seek_past s c) e)

            module _ (b : ℕ) (sized : Some b ≡ stored_size cells c.left) where
              onward : (x : Bool) → leb rest b ≡ x → seek cells s ≡ cond x (on (record { at = c.left; rest = rest })) (on (record { at = c.right; rest = rest - b }))
              onward x e = row false (ne_eqb rest c.size past) ∙ needs_some (stored_size cells c.left) b (seek_past s c) sized ∙ ap (λ v. cond v (on (record { at = c.left; rest = rest })) (on (record { at = c.right; rest = rest - b }))) e

              go_on : (v : Seeker) → seek cells s ≡ on v → Come (seek cells) most_depth start (most_depth - (done + 1)) v
              go_on v e = come_on (seek cells) most_depth start (most_depth - done) (most_depth - (done + 1)) s (omega arith) come v e

              pub sought_left : rest ≤ b → Sought (done + 1) c.left rest
              sought_left le = go_on (record { at = c.left; rest = rest }) (onward true (le-leb rest b le))

              pub sought_right : b < rest → Sought (done + 1) c.right (rest - b)
              sought_right lt = go_on (record { at = c.right; rest = rest - b }) (onward false (lt-leb rest b lt))
