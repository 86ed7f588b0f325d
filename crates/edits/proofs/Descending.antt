-- The walks of an edit on any cells, move by move.
use Rattle.std.proofs.Common.{◌≡◌, ℕ, ◌+◌, ◌-◌, ◌<◌, ◌≤◌, cond, ltb, List, Some, None, Option, sym, ap, ◌∙◌, ⊎_elim, arith}
use Rattle.std.proofs.lemmas.Bool.{cases_lt, le-ltb}
use Rattle.std.specs.List.{slice_get}
use Rattle.cells.specs.declared.cell.Cell.{Cell}
use Rattle.cells.specs.declared.links.Side.{Side}
use Rattle.cells.specs.declared.links.Side.TheVariants.{Left, Right}
use Rattle.cells.specs.Descents.{most_depth, on, ends, walk}
use Rattle.cells.proofs.Descending.{needs_some, needs_none, walk-none, Come, come_on, come_end, come_deep}
use Rattle.climb.specs.declared.way.Way.{Way}
use Rattle.climb.specs.Ways.{no_way, pushed}
use Rattle.edits.specs.declared.find.Aim.{Aim}
use Rattle.edits.specs.declared.find.Fork.{Fork}
use Rattle.edits.specs.declared.find.Found.{Found}
use Rattle.edits.specs.declared.find.Reached.{Reached}
use Rattle.edits.specs.Descents.{stored_fork, turn, Walker, passes, move_at, move, walked, lower_at, lower, found_next}
use Rattle.edits.proofs.Pushing.{push_is}

module _ {E : Type 0} (aim : Aim) (cells : List (Cell E)) (root : Option ℕ) (index : ℕ) where
  abbrev pub Walking : ℕ → Way → Option ℕ → ℕ → Type 0
  Walking done way at rest = Come (move aim cells) most_depth (record { way = no_way; at = root; rest = index }) (most_depth - done) (record { way = way; at = at; rest = rest })

  module _ (done : ℕ) (way : Way) (at : Option ℕ) (rest : ℕ) (come : Walking done way at rest) where
    abbrev w : Walker
    w = record { way = way; at = at; rest = rest }

    abbrev start : Walker
    start = record { way = no_way; at = root; rest = index }

    pub walked_deep : 24 ≤ done → None ≡ walked aim cells root index
    walked_deep h = come_deep (move aim cells) most_depth start (most_depth - done) w (omega arith) come

    module _ (more : done < 24) where
      stop : (out : Option Reached) → move aim cells w ≡ ends out → out ≡ walked aim cells root index
      stop out e = come_end (move aim cells) most_depth start (most_depth - done) (most_depth - (done + 1)) w (omega arith) come out e

      pub walked_gap : at ≡ None → Some (record { way = way; place = None }) ≡ walked aim cells root index
      walked_gap e = stop (Some (record { way = way; place = None })) (ap (move_at aim cells w) e)

      module _ (place : ℕ) (here : at ≡ Some place) where
        pub walked_no_fork : None ≡ stored_fork cells place → None ≡ walked aim cells root index
        walked_no_fork e = stop None (ap (move_at aim cells w) here ∙ needs_none (stored_fork cells place) (λ f. passes w place f (turn aim w.rest f.before)) e)

        module _ (f : Fork) (read : Some f ≡ stored_fork cells place) where
          moves : (side : Option Side) → side ≡ turn aim rest f.before → move aim cells w ≡ passes w place f side
          moves side e = ap (move_at aim cells w) here ∙ needs_some (stored_fork cells place) f (λ f. passes w place f (turn aim w.rest f.before)) read ∙ ap (passes w place f) (sym e)

          pub walked_row : None ≡ turn aim rest f.before → Some (record { way = way; place = Some place }) ≡ walked aim cells root index
          walked_row e = stop (Some (record { way = way; place = Some place })) (moves None e)

          module _ (side : Side) (turns : Some side ≡ turn aim rest f.before) (v : Way) (ev : v ≡ pushed way place side) (at' : Option ℕ) (rest' : ℕ) where
            onward : (s : Walker) → move aim cells w ≡ on s → (record { way = v; at = at'; rest = rest' }) ≡ s → Walking (done + 1) v at' rest'
            onward s e eq = come_on (move aim cells) most_depth start (most_depth - done) (most_depth - (done + 1)) w (omega arith) come (record { way = v; at = at'; rest = rest' }) (e ∙ ap on (sym eq))

            pub walking_left : side ≡ Left → at' ≡ f.links.left → rest' ≡ rest → Walking (done + 1) v at' rest'
            walking_left b a r =
                let s : Walker = record { way = pushed way place Left; at = f.links.left; rest = rest } in
                onward s (moves (Some side) turns ∙ ap (λ c. passes w place f (Some c)) b) (let x = ev ∙ ap (pushed way place) b in cc)

            pub walking_right : side ≡ Right → at' ≡ f.links.right → rest' ≡ rest - f.before - 1 → Walking (done + 1) v at' rest'
            walking_right b a r =
                let s : Walker = record { way = pushed way place Right; at = f.links.right; rest = rest - f.before - 1 } in
                onward s (moves (Some side) turns ∙ ap (λ c. passes w place f (Some c)) b) (let x = ev ∙ ap (pushed way place) b in cc)

module _ {E : Type 0} (cells : List (Cell E)) (row : Found) (right : ℕ) where
  abbrev first : Found
  first = record { way = pushed row.way row.place Right; place = right }

  abbrev least : ℕ
  least = most_depth - (row.way.depth + 1)

  abbrev pub Lowering : ℕ → Way → ℕ → Type 0
  Lowering done way place = Come (lower cells) (most_depth - (row.way.depth + 1)) (record { way = pushed row.way row.place Right; place = right }) (most_depth - done) (record { way = way; place = place })

  -- where the way is full, there is no walk
  pub lowering_start : (way : Way) → way ≡ cond (ltb row.way.depth 24) (pushed row.way row.place Right) row.way → Lowering way.depth way right
  lowering_start way e =
      ⊎_elim
      (λ (lt : row.way.depth < 24).
      let is = push_is row.way way row.place Right lt e in
      let deep : most_depth - (row.way.depth + 1) ≡ most_depth - way.depth = ap (λ (u : Way). most_depth - u.depth) (sym is) in
      ap (λ n. walk (lower cells) n first) deep ∙ ap (λ (u : Way). walk (lower cells) (most_depth - way.depth) (record { way = u; place = right })) (sym is))
      (λ (ge : 24 ≤ row.way.depth).
      let same : way ≡ row.way = e ∙ ap (λ b. cond b (pushed row.way row.place Right) row.way) (le-ltb row.way.depth 24 ge) in
      let d : way.depth ≡ row.way.depth = ap (λ (u : Way). u.depth) same in
      let full : most_depth - (row.way.depth + 1) ≡ 0 = omega arith in
      let out : most_depth - way.depth ≡ 0 = omega arith in
      ap (λ n. walk (lower cells) n first) full ∙ walk-none (lower cells) first ∙ sym (ap (λ n. walk (lower cells) n (record { way = way; place = right })) out ∙ walk-none (lower cells) (record { way = way; place = right })))
      (cases_lt row.way.depth 24)

  module _ (done : ℕ) (way : Way) (place : ℕ) (come : Lowering done way place) where
    abbrev v : Found
    v = record { way = way; place = place }

    pub lowered_deep : 24 ≤ done → None ≡ found_next cells row right
    lowered_deep h = come_deep (lower cells) least first (most_depth - done) v (omega arith) come

    module _ (more : done < 24) where
      halt : (out : Option Found) → lower cells v ≡ ends out → out ≡ found_next cells row right
      halt out e = come_end (lower cells) least first (most_depth - done) (most_depth - (done + 1)) v (omega arith) come out e

      pub lowered_no_cell : None ≡ slice_get cells place → None ≡ found_next cells row right
      lowered_no_cell e = halt None (needs_none (slice_get cells place) (λ (c : Cell E). lower_at v c.left) e)

      module _ (c : Cell E) (read : Some c ≡ slice_get cells place) where
        reads : (next : Option ℕ) → c.left ≡ next → lower cells v ≡ lower_at v next
        reads next e = needs_some (slice_get cells place) c (λ (c : Cell E). lower_at v c.left) read ∙ ap (lower_at v) e

        pub lowered : c.left ≡ None → Some (record { way = way; place = place }) ≡ found_next cells row right
        lowered e = halt (Some v) (reads None e)

        pub lowering_on : (next : ℕ) (w : Way) → c.left ≡ Some next → w ≡ pushed way place Left → Lowering (done + 1) w next
        lowering_on next w e ev =
            come_on (lower cells) least first (most_depth - done) (most_depth - (done + 1)) v (omega arith) come (record { way = w; place = next }) (reads (Some next) e ∙ ap (λ (u : Way). on (record { way = u; place = next })) (sym ev))
