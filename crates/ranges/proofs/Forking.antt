-- The walk to the row of a range that stands highest.
use Rattle.std.proofs.Common.{◌≡◌, ℕ, ◌+◌, ◌-◌, ◌<◌, ◌≤◌, max, List, ◌∷◌, ◌++◌, length, take, drop, Some, None, Option, refl, ap, ◌∙◌, subst, arith}
use lib.Seq.{take-append-le, drop-append-le}
use Rattle.std.specs.List.{slice_get}
use Rattle.cells.specs.declared.cell.Cell.{Cell}
use Rattle.cells.specs.Trees.{Tree, size, height, rows, Stands}
use Rattle.cells.specs.Truth.{True}
use Rattle.cells.specs.Rooted.{Rooted, SizeAt}
use Rattle.cells.proofs.Frame.{rows_long}
use Rattle.ranges.specs.declared.fork.Fork.{Fork}
use Rattle.ranges.specs.Parts.{Forks}
use Rattle.ranges.proofs.Pieces.{take_over, drop_over}
use Rattle.ranges.proofs.Walking.{Walk, walk_start, walk_leaf, walk_no_deeper, walk_no_cell, walk_no_size, opened, walk_size, walk_left, walk_right}

pub record Forking {E : Type 0} (cells : List (Cell E)) (t : Tree E) (first last : ℕ) (at : Option ℕ) (from to depth : ℕ) : Type 0 where
  pub sub : Tree E
  pub walk : Walk cells t at to depth sub
  pub some : from < to
  pub part : drop first (take last (rows t)) ≡ drop from (take to (rows sub))

abbrev pub ForkingAll : {E : Type 0} → List (Cell E) → Option ℕ → ℕ → ℕ → Option ℕ → ℕ → ℕ → ℕ → Type 0
ForkingAll {E} cells root first last at from to depth = (t : Tree E) → Rooted cells root t → first < last → last ≤ size t → Forking cells t first last at from to depth

module _ {E : Type 0} (cells : List (Cell E)) (root : Option ℕ) (first last : ℕ) where
  pub fork_start : ForkingAll cells root first last root first last 0
  fork_start t h lt w = record { sub = t; walk = walk_start cells t root last h w; some = lt; part = refl }

  module _ (at : Option ℕ) (from to depth : ℕ) (inv : ForkingAll cells root first last at from to depth) where
    -- a walk that refuses met no tree
    pub fork_no_place : at ≡ None → (out : Option Fork) → Forks cells root first last out
    fork_no_place none out t h lt w =
        let g = inv t h lt w in
        let any = g.some in
        let fits = g.walk.within in
        let end = ap size (walk_leaf cells t at to depth g.sub none g.walk) in
        absurd (omega arith)

    pub fork_no_deeper : 24 ≤ depth → (out : Option Fork) → Forks cells root first last out
    fork_no_deeper deep out t h lt w =
        let g = inv t h lt w in
        let any = g.some in
        let fits = g.walk.within in
        let low = g.walk.low in
        let high = h.low in
        absurd (walk_no_deeper cells t at to depth g.sub (omega arith) (omega arith) h.low g.walk)

    module _ (i : ℕ) (some : at ≡ Some i) where
      pub fork_no_cell : None ≡ slice_get cells i → (out : Option Fork) → Forks cells root first last out
      fork_no_cell read out t h lt w = let g = inv t h lt w in absurd (walk_no_cell cells t at to depth i some g.sub g.walk read)

      module _ (c : Cell E) (read : Some c ≡ slice_get cells i) where
        pub fork_no_size : SizeAt cells c.left None → (out : Option Fork) → Forks cells root first last out
        fork_no_size below out t h lt w = let g = inv t h lt w in absurd (walk_no_size cells t at to depth i some g.sub g.walk c read below)

        module _ (b : ℕ) (sized : SizeAt cells c.left (Some b)) where
          pub fork_left : to ≤ b → ForkingAll cells root first last c.left from to (depth + 1)
          fork_left le t h lt w =
              let g = inv t h lt w in
              let o = opened cells t at to depth i some g.sub g.walk c read in
              let wide = walk_size cells t at to depth i some g.sub g.walk c read b sized in
              let long = rows_long o.l in
              record {
                sub = o.l;
                walk = walk_left cells t at to depth i some g.sub g.walk c read to (omega arith);
                some = g.some;
                part = g.part ∙ ap (λ v. drop from (take to (rows v))) o.is_node ∙ ap (drop from) (take-append-le to (rows o.l) (o.k ∷ rows o.r) (omega arith));
              }

          pub fork_right : (from' to' : ℕ) → b < from → b < to → from' ≡ from - b - 1 → to' ≡ to - b - 1 → ForkingAll cells root first last c.right from' to' (depth + 1)
          fork_right from' to' lf lt from_is to_is t h le w =
              let g = inv t h le w in
              let o = opened cells t at to depth i some g.sub g.walk c read in
              let wide = walk_size cells t at to depth i some g.sub g.walk c read b sized in
              let long = rows_long o.l in
              let any = g.some in
              let many : size g.sub ≡ size o.l + size o.r + 1 = ap size o.is_node in
              let fits = g.walk.within in
              record {
                sub = o.r;
                walk = walk_right cells t at to depth i some g.sub g.walk c read to' (omega arith);
                some = omega arith;
                part = g.part ∙ ap (λ v. drop from (take to (rows v))) o.is_node ∙ ap (drop from) (take_over (rows o.l) o.k (rows o.r) to to' (omega arith)) ∙ drop_over (rows o.l) o.k (take to' (rows o.r)) from from' (omega arith);
              }

          pub fork-found : (to' : ℕ) → from ≤ b → b < to → to' ≡ to - b - 1 → Forks cells root first last (Some (record { place = i; before = b - from; behind = to' }))
          fork-found to' lf lt to_is t h le w =
              let g = inv t h le w in
              let o = opened cells t at to depth i some g.sub g.walk c read in
              let wide = walk_size cells t at to depth i some g.sub g.walk c read b sized in
              let long = rows_long o.l in
              let high : height g.sub ≡ max (height o.l) (height o.r) + 1 = ap height o.is_node in
              let many : size g.sub ≡ size o.l + size o.r + 1 = ap size o.is_node in
              let low = g.walk.low in
              let fits = g.walk.within in
              let same : from ≡ length (rows o.l) - (b - from) = omega arith in (
                record { place = i; before = b - from; behind = to' },
                refl,
                record {
                  left = o.l;
                  kind = o.k;
                  product = o.p;
                  right = o.r;
                  stands = subst (Stands cells) o.is_node g.walk.stands;
                  part = g.part ∙ ap (λ v. drop from (take to (rows v))) o.is_node ∙ ap (drop from) (take_over (rows o.l) o.k (rows o.r) to to' (omega arith)) ∙ drop-append-le from (rows o.l) (o.k ∷ take to' (rows o.r)) (omega arith) ∙ ap (λ v. drop v (rows o.l) ++ (o.k ∷ take to' (rows o.r))) same;
                  within_left = omega arith;
                  within_right = omega arith;
                  low = omega arith;
                  truth = λ m tr. subst (True m) o.is_node (g.walk.truth m tr);
                },
              )
