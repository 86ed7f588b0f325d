-- The walks of a range on any cells, move by move.
use Rattle.std.proofs.Common.{◌≡◌, ℕ, ◌+◌, ◌-◌, ◌<◌, ◌≤◌, Bool, true, false, cond, leb, List, Some, None, Option, sym, refl, ap, ◌∙◌, arith}
use Rattle.std.proofs.lemmas.Bool.{le-leb, lt-leb}
use Rattle.std.specs.List.{slice_get}
use Rattle.cells.specs.declared.cell.Cell.{Cell}
use Rattle.cells.specs.Descents.{most_depth, Move, on, ends, needs, answer, walk, stored_size}
use Rattle.cells.proofs.Descending.{needs_some, needs_none, walk-none, walk-more, Come, come_on, come_end, come_deep}
use Rattle.ranges.specs.declared.end.End.{End}
use Rattle.ranges.specs.declared.fork.Fork.{Fork}
use Rattle.ranges.specs.Ends.{near, far}
use Rattle.ranges.specs.Descents.{Search, search_past, search, forked, Taker, take_past, take_row, take_at, taker, taken}

module _ {E : Type 0} (cells : List (Cell E)) (root : Option ℕ) (first last : ℕ) where
  abbrev pub Searching : ℕ → Option ℕ → ℕ → ℕ → Type 0
  Searching done at from to = Come (search cells) most_depth (record { at = root; from = first; to = last }) (most_depth - done) (record { at = at; from = from; to = to })

  abbrev start : Search
  start = record { at = root; from = first; to = last }

  module _ (done : ℕ) (at : Option ℕ) (from to : ℕ) (come : Searching done at from to) where
    abbrev s : Search
    s = record { at = at; from = from; to = to }

    pub search_deep : 24 ≤ done → None ≡ forked cells root first last
    search_deep h = come_deep (search cells) most_depth start (most_depth - done) s (omega arith) come

    module _ (more : done < 24) where
      stop : (out : Option Fork) → search cells s ≡ ends out → out ≡ forked cells root first last
      stop out e = come_end (search cells) most_depth start (most_depth - done) (most_depth - (done + 1)) s (omega arith) come out e

      abbrev there : ℕ → Move Search Fork
      there place = needs (slice_get cells place) (λ (c : Cell E). needs (stored_size cells c.left) (search_past s place c))

      pub search_no_place : at ≡ None → None ≡ forked cells root first last
      search_no_place e = stop None (needs_none at there (sym e))

      module _ (place : ℕ) (here : at ≡ Some place) where
        pub search_no_cell : None ≡ slice_get cells place → None ≡ forked cells root first last
        search_no_cell e = stop None (needs_some at place there (sym here) ∙ needs_none (slice_get cells place) (λ (c : Cell E). needs (stored_size cells c.left) (search_past s place c)) e)

        module _ (c : Cell E) (read : Some c ≡ slice_get cells place) where
          open_row : search cells s ≡ needs (stored_size cells c.left) (search_past s place c)
          open_row = needs_some at place there (sym here) ∙ needs_some (slice_get cells place) c (λ (c : Cell E). needs (stored_size cells c.left) (search_past s place c)) read

          pub search_no_size : None ≡ stored_size cells c.left → None ≡ forked cells root first last
          search_no_size e = stop None (open_row ∙ needs_none (stored_size cells c.left) (search_past s place c) e)

          module _ (b : ℕ) (sized : Some b ≡ stored_size cells c.left) where
            row : (x y : Bool) → leb to b ≡ x → leb from b ≡ y → search cells s ≡ cond x (on (record { at = c.left; from = from; to = to })) (cond y (ends (Some (record { place = place; before = b - from; behind = to - b - 1 }))) (on (record { at = c.right; from = from - b - 1; to = to - b - 1 })))
            row x y ex ey = open_row ∙ needs_some (stored_size cells c.left) b (search_past s place c) sized ∙ ap (λ v. cond v (on (record { at = c.left; from = from; to = to })) (cond (leb from b) (ends (Some (record { place = place; before = b - from; behind = to - b - 1 }))) (on (record { at = c.right; from = from - b - 1; to = to - b - 1 })))) ex ∙ ap (λ v. cond x (on (record { at = c.left; from = from; to = to })) (cond v (ends (Some (record { place = place; before = b - from; behind = to - b - 1 }))) (on (record { at = c.right; from = from - b - 1; to = to - b - 1 })))) ey

            onward : (v : Search) → search cells s ≡ on v → Come (search cells) most_depth start (most_depth - (done + 1)) v
            onward v e = come_on (search cells) most_depth start (most_depth - done) (most_depth - (done + 1)) s (omega arith) come v e

            pub search_left : to ≤ b → Searching (done + 1) c.left from to
            search_left le = onward (record { at = c.left; from = from; to = to }) (row true (leb from b) (le-leb to b le) refl)

            pub search_found : from ≤ b → b < to → (behind : ℕ) → behind ≡ to - b - 1 → Some (record { place = place; before = b - from; behind = behind }) ≡ forked cells root first last
            search_found le lt behind e = ap (λ v. Some (record { place = place; before = b - from; behind = v })) e ∙ stop (Some (record { place = place; before = b - from; behind = to - b - 1 })) (row false true (lt-leb to b lt) (le-leb from b le))

            pub search_right : (from' to' : ℕ) → b < from → b < to → from' ≡ from - b - 1 → to' ≡ to - b - 1 → Searching (done + 1) c.right from' to'
            search_right from' to' lf lt ef et = onward (record { at = c.right; from = from'; to = to' }) (row false false (lt-leb to b lt) (lt-leb from b lf) ∙ ap (λ v. on (record { at = c.right; from = v; to = to - b - 1 })) (sym ef) ∙ ap (λ v. on (record { at = c.right; from = from'; to = v })) (sym et))

module _ {E : Type 0} (end : End) (cells : List (Cell E)) (root : Option ℕ) (n : ℕ) where
  abbrev pub Taking : ℕ → Option ℕ → ℕ → Type 0
  Taking done at rest = Come (taker end cells) (most_depth + 1) (record { at = root; rest = n }) (most_depth + 1 - done) (record { at = at; rest = rest })

  abbrev begin : Taker
  begin = record { at = root; rest = n }

  -- the last move is no look at a cell
  module _ (t : Taker) where
    no_more_past : (c : Cell E) (b : ℕ) (x : Bool) → answer (walk (taker end cells) 0) (cond x (on (record { at = near end c.left c.right; rest = t.rest })) (on (record { at = far end c.left c.right; rest = t.rest - b - 1 }))) ≡ None
    no_more_past c b true = walk-none (taker end cells) (record { at = near end c.left c.right; rest = t.rest })
    no_more_past c b false = walk-none (taker end cells) (record { at = far end c.left c.right; rest = t.rest - b - 1 })

    no_more_sized : (c : Cell E) (size : Option ℕ) → answer (walk (taker end cells) 0) (needs size (take_past end t c)) ≡ None
    no_more_sized c None = refl
    no_more_sized c (Some b) = no_more_past c b (leb t.rest b)

    no_more_row : (read : Option (Cell E)) → answer (walk (taker end cells) 0) (take_row end cells t read) ≡ None
    no_more_row None = refl
    no_more_row (Some c) = no_more_sized c (stored_size cells (near end c.left c.right))

  module _ (done : ℕ) (at : Option ℕ) (rest : ℕ) (come : Taking done at rest) where
    abbrev t : Taker
    t = record { at = at; rest = rest }

    pub take_all : done ≤ 24 → at ≡ None → Some tt ≡ taken end cells root n
    take_all h e = come_end (taker end cells) (most_depth + 1) begin (most_depth + 1 - done) (most_depth - done) t (omega arith) come (Some tt) (ap (take_at end cells t) e)

    pub take_deep : done ≡ 24 → (place : ℕ) → at ≡ Some place → None ≡ taken end cells root n
    take_deep d place e =
        let one : most_depth + 1 - done ≡ 0 + 1 = omega arith in
        sym (come ∙ ap (λ m. walk (taker end cells) m t) one ∙ walk-more (taker end cells) 0 t ∙ ap (λ v. answer (walk (taker end cells) 0) (take_at end cells t v)) e ∙ no_more_row t (slice_get cells place))

    module _ (more : done < 24) (place : ℕ) (here : at ≡ Some place) where
      halt : (out : Option (Unit {0})) → taker end cells t ≡ ends out → out ≡ taken end cells root n
      halt out e = come_end (taker end cells) (most_depth + 1) begin (most_depth + 1 - done) (most_depth - done) t (omega arith) come out e

      pub take_off : None ≡ slice_get cells place → None ≡ taken end cells root n
      take_off e = halt None (ap (take_at end cells t) here ∙ needs_none (slice_get cells place) (λ (c : Cell E). needs (stored_size cells (near end c.left c.right)) (take_past end t c)) e)

      module _ (c : Cell E) (read : Some c ≡ slice_get cells place) (near' : Option ℕ) (is_near : near' ≡ near end c.left c.right) where
        open_taken : taker end cells t ≡ needs (stored_size cells near') (take_past end t c)
        open_taken = ap (take_at end cells t) here ∙ needs_some (slice_get cells place) c (λ (c : Cell E). needs (stored_size cells (near end c.left c.right)) (take_past end t c)) read ∙ ap (λ v. needs (stored_size cells v) (take_past end t c)) (sym is_near)

        pub take_off_near : None ≡ stored_size cells near' → None ≡ taken end cells root n
        take_off_near e = halt None (open_taken ∙ needs_none (stored_size cells near') (take_past end t c) e)

        module _ (b : ℕ) (sized : Some b ≡ stored_size cells near') where
          ahead : (x : Bool) → leb rest b ≡ x → taker end cells t ≡ cond x (on (record { at = near end c.left c.right; rest = rest })) (on (record { at = far end c.left c.right; rest = rest - b - 1 }))
          ahead x e = open_taken ∙ needs_some (stored_size cells near') b (take_past end t c) sized ∙ ap (λ v. cond v (on (record { at = near end c.left c.right; rest = rest })) (on (record { at = far end c.left c.right; rest = rest - b - 1 }))) e

          go_on : (v : Taker) → taker end cells t ≡ on v → Come (taker end cells) (most_depth + 1) begin (most_depth + 1 - (done + 1)) v
          go_on v e = come_on (taker end cells) (most_depth + 1) begin (most_depth + 1 - done) (most_depth + 1 - (done + 1)) t (omega arith) come v e

          pub taking_near : rest ≤ b → Taking (done + 1) near' rest
          taking_near le = go_on (record { at = near'; rest = rest }) (ahead true (le-leb rest b le) ∙ ap (λ v. on (record { at = v; rest = rest })) (sym is_near))

          pub taking_far : (far' : Option ℕ) (rest' : ℕ) → b < rest → far' ≡ far end c.left c.right → rest' ≡ rest - b - 1 → Taking (done + 1) far' rest'
          taking_far far' rest' lt ef er = go_on (record { at = far'; rest = rest' }) (ahead false (lt-leb rest b lt) ∙ ap (λ v. on (record { at = v; rest = rest - b - 1 })) (sym ef) ∙ ap (λ v. on (record { at = far'; rest = v })) (sym er))
