-- The walk beside the rows at an end of a tree.
use Rattle.std.proofs.Common.{◌≡◌, ℕ, ◌+◌, ◌-◌, ◌*◌, ◌<◌, ◌≤◌, List, [], ◌∷◌, Some, None, Option, sym, refl, ap, ◌∙◌, subst, arith}
use Rattle.std.specs.List.{slice_get}
use Rattle.monoid.specs.Meaning.{Meaning}
use Rattle.monoid.specs.Words.{Word, image_of}
use Rattle.cells.specs.declared.cell.Cell.{Cell}
use Rattle.cells.specs.declared.stretch.Stretch.{Stretch}
use Rattle.cells.specs.Trees.{Tree, size, rows}
use Rattle.cells.specs.Truth.{True}
use Rattle.cells.specs.Rooted.{Rooted, StretchAt}
use Rattle.cells.specs.Counts.{Spent}
use Rattle.ranges.specs.declared.end.End.{End}
use Rattle.ranges.specs.declared.end.Sides.{Sides}
use Rattle.ranges.specs.Ends.{near, far, beside, ending}
use Rattle.ranges.specs.Joins.{Extends}
use Rattle.ranges.specs.Parts.{Never, TakesEnd, Costs}
use Rattle.ranges.proofs.Ending.{both_sizes, beside_assoc, beside_none, ending_near, ending_far}
use Rattle.ranges.proofs.Walking.{Walk, walk_start, walk_leaf, walk_any, walk_no_deeper, walk_no_cell, opened, walk_no_near, walk_near_size, walk_near_image, walk_near, walk_far}

-- how far the walk has come: `done` is the product so far, where the recogniser is in order
pub record Taking {E : Type 0} (m : Meaning E) (Orderly : Type 0) (cells : List (Cell E)) (end : End) (t : Tree E) (n : ℕ) (start : E) (at : Option ℕ) (rest depth : ℕ) (done : E) : Type 0 where
  pub sub : Tree E
  pub walk : Walk cells t at rest depth sub
  pub value : Orderly → True m t → (u : Word) → start ≡ image_of m u → (w : Word) × (done ≡ image_of m w) × (beside end u (ending end n (rows t)) ≡ beside end w (ending end rest (rows sub)))

abbrev pub TakingAll : {E : Type 0} → Meaning E → Type 0 → List (Cell E) → End → Option ℕ → ℕ → E → Option ℕ → ℕ → ℕ → E → Type 0
TakingAll {E} m Orderly cells end root n start at rest depth done = (t : Tree E) → Rooted cells root t → n ≤ size t → Taking m Orderly cells end t n start at rest depth done

-- a walk that refuses met no tree
pub costs_refused : {E : Type 0} (cells : List (Cell E)) (root : Option ℕ) (n depth before after : ℕ) → depth ≤ 24 → Spent (2 * depth) before after → Never cells root n → Costs cells root n before after
costs_refused cells root n depth before after deep spent never = record { always = (spent.0, omega arith, spent.2); by_height = λ t h w. absurd (never t h w) }

module _ {E : Type 0} (m : Meaning E) (Orderly : Type 0) (cells : List (Cell E)) (end : End) (root : Option ℕ) (n : ℕ) (start : E) where
  pub take_start : TakingAll m Orderly cells end root n start root n 0 start
  take_start t h w = record { sub = t; walk = walk_start cells t root n h w; value = λ o tr u e. (u, e, refl) }

  pub take_refused : (out : Option E) → Never cells root n → Orderly → TakesEnd m cells end root n start out
  take_refused out never o t h tr w = absurd (never t h w)

  module _ (at : Option ℕ) (rest depth : ℕ) (done : E) (inv : TakingAll m Orderly cells end root n start at rest depth done) where
    pub take_costs : (before after : ℕ) → at ≡ None → depth ≤ 24 → Spent (2 * depth) before after → Costs cells root n before after
    take_costs before after none deep spent = record {
      always = (spent.0, omega arith, spent.2);
      by_height = λ t h w. let low = (inv t h w).walk.low in (spent.0, omega arith, spent.2);
    }

    pub take_done : at ≡ None → Orderly → TakesEnd m cells end root n start (Some done)
    take_done none o t h tr w u e =
        let g = inv t h w in
        let v = g.value o tr u e in
        let ends = walk_leaf cells t at rest depth g.sub none g.walk in
        let fits = g.walk.within in
        let none_left : rest ≡ 0 = (let s = ap size ends in omega arith) in
        ap Some (v.1 ∙ sym (ap (image_of m) (v.2 ∙ ap (λ s. beside end v.0 (ending end rest (rows s))) ends ∙ beside_none end v.0 rest none_left)))

    module _ (i : ℕ) (some : at ≡ Some i) where
      pub take_no_deeper : depth ≡ 24 → Never cells root n
      take_no_deeper deep t h w = let g = inv t h w in walk_no_deeper cells t at rest depth g.sub (walk_any cells t at rest depth i some g.sub g.walk) deep h.low g.walk

      pub take_no_cell : None ≡ slice_get cells i → Never cells root n
      take_no_cell read t h w = let g = inv t h w in walk_no_cell cells t at rest depth i some g.sub g.walk read

      module _ (c : Cell E) (read : Some c ≡ slice_get cells i) (s : Sides) (s_is : s ≡ record { near = near end c.left c.right; far = far end c.left c.right }) (unit : E) where
        pub take_no_near : StretchAt cells s.near unit None → Never cells root n
        take_no_near below t h w = let g = inv t h w in walk_no_near cells t at rest depth i some g.sub g.walk c read end s s_is unit below

        module _ (b : Stretch E) (below : StretchAt cells s.near unit (Some b)) where
          pub take_near : rest ≤ b.size → TakingAll m Orderly cells end root n start s.near rest (depth + 1) done
          take_near le t h w =
              let g = inv t h w in
              let o = opened cells t at rest depth i some g.sub g.walk c read in
              let wide = walk_near_size cells t at rest depth i some g.sub g.walk c read end s s_is unit b below in
              record {
                sub = near end o.l o.r;
                walk = walk_near cells t at rest depth i some g.sub g.walk c read end s s_is rest (omega arith);
                value = λ or tr u e.
                    let v = g.value or tr u e in
                    (v.0, v.1, v.2 ∙ ap (λ x. beside end v.0 (ending end rest (rows x))) o.is_node ∙ ap (beside end v.0) (ending_near o.l o.r o.k end rest (omega arith)));
              }

          pub take_far : (now : Meaning E) (next : E) (left : ℕ) → now ≡ m → (Orderly → unit ≡ m.unit) → (Orderly → Extends now end done b.product c.kind next) → b.size < rest → left ≡ rest - b.size - 1 → TakingAll m Orderly cells end root n start s.far left (depth + 1) next
          take_far now next left same unit_is extends lt left_is t h w =
              let g = inv t h w in
              let o = opened cells t at rest depth i some g.sub g.walk c read in
              let wide = walk_near_size cells t at rest depth i some g.sub g.walk c read end s s_is unit b below in
              let many : size g.sub ≡ size o.l + size o.r + 1 = ap size o.is_node in
              let both = both_sizes end o.l o.r in
              let fits = g.walk.within in
              let stretch : Word = rows (near end o.l o.r) in
              record {
                sub = far end o.l o.r;
                walk = walk_far cells t at rest depth i some g.sub g.walk c read end s s_is left (omega arith);
                value = λ or tr u e.
                    let v = g.value or tr u e in
                    let stretch_is = walk_near_image cells t at rest depth i some g.sub g.walk c read end s s_is unit b below m tr (unit_is or) in
                    let told : Extends m end done b.product c.kind next = subst (λ (z : Meaning E). Extends z end done b.product c.kind next) same (extends or) in
                    let kind_is : c.kind ≡ o.k = ap (λ (z : Cell E). z.kind) o.is_cell in
                    let behind : Word = ending end left (rows (far end o.l o.r)) in (
                      beside end v.0 (beside end stretch (o.k ∷ [])),
                      told v.0 stretch v.1 stretch_is ∙ ap (λ k. image_of m (beside end v.0 (beside end stretch (k ∷ [])))) kind_is,
                      v.2 ∙ ap (λ x. beside end v.0 (ending end rest (rows x))) o.is_node ∙ ap (beside end v.0) (ending_far o.l o.r o.k end rest left (omega arith) (omega arith) (omega arith)) ∙ sym (beside_assoc end v.0 (beside end stretch (o.k ∷ [])) behind),
                    );
              }
