-- A walk down a tree that counts the rows on its left.
use Rattle.std.proofs.Common.{◌≡◌, ℕ, ◌+◌, ◌<◌, ◌≤◌, max, List, Some, None, Option, sym, refl, ap, ◌∙◌, subst, ap₂, arith}
use Rattle.std.specs.List.{slice_get}
use Rattle.monoid.specs.Meaning.{Meaning}
use Rattle.monoid.specs.Words.{image_of}
use Rattle.cells.specs.declared.cell.Cell.{Cell}
use Rattle.cells.specs.declared.stretch.Stretch.{Stretch}
use Rattle.cells.specs.Trees.{Tree, leaf, node, link, size, height, rows, Stands}
use Rattle.cells.specs.Truth.{True}
use Rattle.cells.specs.Rooted.{Rooted, SizeAt, StretchAt}
use Rattle.cells.proofs.Lookup.{some_one, none-some}
use Rattle.cells.proofs.Opening.{Open, open_at, no_cell}
use Rattle.ranges.specs.declared.end.End.{End}
use Rattle.ranges.specs.declared.end.Sides.{Sides}
use Rattle.ranges.specs.Ends.{near, far}
use Rattle.ranges.proofs.Ending.{near_of, far_of, near_map, far_map}
use Rattle.ranges.proofs.Joining.{stored_is}

-- the walk down t has come to a subtree, so deep, with so many rows still to count
pub record Walk {E : Type 0} (cells : List (Cell E)) (t : Tree E) (at : Option ℕ) (rest depth : ℕ) (sub : Tree E) : Type 0 where
  pub here : at ≡ link sub
  pub stands : Stands cells sub
  pub within : rest ≤ size sub
  pub low : height sub + depth ≤ height t
  pub truth : (m : Meaning E) → True m t → True m sub

module _ {E : Type 0} (cells : List (Cell E)) (t : Tree E) where
  pub walk_start : (root : Option ℕ) (n : ℕ) → Rooted cells root t → n ≤ size t → Walk cells t root n 0 t
  walk_start root n h w = record { here = h.top; stands = h.stands; within = w; low = omega arith; truth = λ m tr. tr }

  module _ (at : Option ℕ) (rest depth : ℕ) where
    pub walk_leaf : (sub : Tree E) → at ≡ None → Walk cells t at rest depth sub → sub ≡ leaf
    walk_leaf leaf none w = refl
    walk_leaf (node l i k p r) none w = absurd (none-some (sym none ∙ w.here))

    pub walk_no_deeper : (sub : Tree E) → 0 < size sub → depth ≡ 24 → height t ≤ 24 → Walk cells t at rest depth sub → ⊥
    walk_no_deeper leaf any deep high w = omega arith
    walk_no_deeper (node l j k p r) any deep high w = let low = w.low in omega arith

    module _ (i : ℕ) (some : at ≡ Some i) (sub : Tree E) (w : Walk cells t at rest depth sub) where
      walk_any_at : (s : Tree E) → Some i ≡ link s → 0 < size s
      walk_any_at leaf e = absurd (none-some (sym e))
      walk_any_at (node l j k p r) e = omega arith

      pub walk_any : 0 < size sub
      walk_any = walk_any_at sub (sym some ∙ w.here)

      pub walk_no_cell : None ≡ slice_get cells i → ⊥
      walk_no_cell read = no_cell cells i sub (sym some ∙ w.here) w.stands read

      module _ (c : Cell E) (read : Some c ≡ slice_get cells i) where
        pub opened : Open cells i c sub
        opened = open_at cells i c sub (sym some ∙ w.here) w.stands read

        abbrev o : Open cells i c sub
        o = opened

        sides_true : (m : Meaning E) → True m t → True m (node o.l i o.k o.p o.r)
        sides_true m tr = subst (True m) o.is_node (w.truth m tr)

        left_is : c.left ≡ link o.l
        left_is = ap (λ (v : Cell E). v.left) o.is_cell

        right_is : c.right ≡ link o.r
        right_is = ap (λ (v : Cell E). v.right) o.is_cell

        -- the walk goes on in a side that has rows enough
        pub walk_left : (n : ℕ) → n ≤ size o.l → Walk cells t c.left n (depth + 1) o.l
        walk_left n le =
            let high : height sub ≡ max (height o.l) (height o.r) + 1 = ap height o.is_node in
            let low = w.low in
            record { here = left_is; stands = o.stands_l; within = le; low = omega arith; truth = λ m tr. (sides_true m tr).1 }

        pub walk_right : (n : ℕ) → n ≤ size o.r → Walk cells t c.right n (depth + 1) o.r
        walk_right n le =
            let high : height sub ≡ max (height o.l) (height o.r) + 1 = ap height o.is_node in
            let low = w.low in
            record { here = right_is; stands = o.stands_r; within = le; low = omega arith; truth = λ m tr. (sides_true m tr).2 }

        pub walk_no_size : SizeAt cells c.left None → ⊥
        walk_no_size below = none-some (below o.l o.stands_l left_is)

        pub walk_size : (n : ℕ) → SizeAt cells c.left (Some n) → n ≡ size o.l
        walk_size n below = some_one (below o.l o.stands_l left_is)

        -- by nearness to an end
        module _ (end : End) (s : Sides) (s_is : s ≡ record { near = near end c.left c.right; far = far end c.left c.right }) where
          abbrev nearer : Tree E
          nearer = near end o.l o.r

          abbrev farther : Tree E
          farther = far end o.l o.r

          near_is : s.near ≡ near end c.left c.right
          near_is = ap {A = Sides} (λ v. v.near) s_is

          far_is : s.far ≡ far end c.left c.right
          far_is = ap {A = Sides} (λ v. v.far) s_is

          near_link : s.near ≡ link nearer
          near_link = near_is ∙ ap₂ (near end) left_is right_is ∙ near_map link end o.l o.r

          far_link : s.far ≡ link farther
          far_link = far_is ∙ ap₂ (far end) left_is right_is ∙ far_map link end o.l o.r

          side_low : (x : Tree E) → height x ≤ max (height o.l) (height o.r) → height x + (depth + 1) ≤ height t
          side_low x le = let high : height sub ≡ max (height o.l) (height o.r) + 1 = ap height o.is_node in let low = w.low in omega arith

          near_stands : Stands cells nearer
          near_stands = near_of (Stands cells) end o.l o.r o.stands_l o.stands_r

          pub walk_near : (n : ℕ) → n ≤ size nearer → Walk cells t s.near n (depth + 1) nearer
          walk_near n le = record {
            here = near_link;
            stands = near_stands;
            within = le;
            low = side_low nearer (near_of (λ (x : Tree E). height x ≤ max (height o.l) (height o.r)) end o.l o.r (omega arith) (omega arith));
            truth = λ m tr. near_of (True m) end o.l o.r (sides_true m tr).1 (sides_true m tr).2;
          }

          pub walk_far : (n : ℕ) → n ≤ size farther → Walk cells t s.far n (depth + 1) farther
          walk_far n le = record {
            here = far_link;
            stands = far_of (Stands cells) end o.l o.r o.stands_l o.stands_r;
            within = le;
            low = side_low farther (far_of (λ (x : Tree E). height x ≤ max (height o.l) (height o.r)) end o.l o.r (omega arith) (omega arith));
            truth = λ m tr. far_of (True m) end o.l o.r (sides_true m tr).1 (sides_true m tr).2;
          }

          pub walk_no_near : (unit : E) → StretchAt cells s.near unit None → ⊥
          walk_no_near unit below = none-some (below nearer near_stands near_link)

          module _ (unit : E) (b : Stretch E) (below : StretchAt cells s.near unit (Some b)) where
            pub walk_near_size : b.size ≡ size nearer
            walk_near_size = ap (λ (v : Stretch E). v.size) (some_one (below nearer near_stands near_link))

            pub walk_near_image : (m : Meaning E) → True m t → unit ≡ m.unit → b.product ≡ image_of m (rows nearer)
            walk_near_image m tr unit_is = ap (λ (v : Stretch E). v.product) (some_one (below nearer near_stands near_link)) ∙ stored_is m unit nearer (near_of (True m) end o.l o.r (sides_true m tr).1 (sides_true m tr).2) unit_is
