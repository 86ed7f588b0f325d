-- The product of a range, from its fork and its two ends.
use Rattle.std.proofs.Common.{◌≡◌, ℕ, ◌+◌, ◌-◌, ◌*◌, ◌<◌, ◌≤◌, List, [], ◌∷◌, ◌++◌, length, take, drop, Some, None, Option, sym, ap, ◌∙◌, subst, append_assoc, arith, length-take, take-add, drop_at}
use Rattle.std.specs.List.{slice_get}
use Rattle.monoid.specs.Meaning.{Meaning}
use Rattle.monoid.specs.Words.{Word, image_of}
use Rattle.monoid.specs.Laws.{Lawful}
use Rattle.monoid.proofs.Words.{image_one}
use Rattle.cells.specs.declared.cell.Cell.{Cell}
use Rattle.cells.specs.Trees.{Tree, size, rows, cell, height}
use Rattle.heights.specs.Heights.{highest}
use Rattle.heights.proofs.Fewest.{balanced_rows}
use Rattle.heights.proofs.Highest.{greatest}
use Rattle.cells.specs.Truth.{True}
use Rattle.cells.specs.Rooted.{Rooted}
use Rattle.cells.specs.Counts.{Spent}
use Rattle.cells.proofs.Lookup.{some_one, none-some}
use Rattle.cells.proofs.Frame.{rows_long}
use Rattle.ranges.specs.declared.fork.Fork.{Fork}
use Rattle.ranges.specs.Parts.{Never, TakesEnd, Costs, Forked, Forks}
use Rattle.ranges.specs.declared.end.End.TheVariants.{Front, Back}
use Rattle.ranges.specs.Ends.{ending}
use Rattle.ranges.specs.Ranges.{part, Ranges, RangeCosts}

part_is : (w : Word) (first last : ℕ) → first ≤ last → last ≤ length w → drop first (take last w) ≡ part w first last
part_is w first last le within =
    let e : last ≡ first + (last - first) = omega arith in
    let long = length-take first w in
    ap (λ n. drop first (take n w)) e ∙ ap (drop first) (take-add first (last - first) w) ∙ drop_at (take first w) (take (last - first) (drop first w)) first (omega arith)

module _ {E : Type 0} (cells : List (Cell E)) (root : Option ℕ) (first last : ℕ) where
  pub range_none : (m : Meaning E) (unit : E) → last ≤ first → unit ≡ m.unit → Ranges m cells root first last (Some unit)
  range_none m unit le unit_is t h tr w = let z : last - first ≡ 0 = omega arith in ap Some (unit_is ∙ ap (λ n. image_of m (take n (drop first (rows t)))) (sym z))

  -- a bound by the height is one by the rows
  costs_of : (before after : ℕ) → Spent 96 before after → ((t : Tree E) → Rooted cells root t → last ≤ size t → Spent (4 * height t + 4) before after) → RangeCosts cells root last before after
  costs_of before after always by_height = record {
    always = always;
    by_height = by_height;
    by_rows = λ t h w balanced.
        let spent = by_height t h w in
        let low : height t ≤ highest (size t) = (greatest (size t)).most (height t) (balanced_rows t balanced) in
        (spent.0, omega (arith, spent.1), spent.2);
  }

  pub costs_none : (before : ℕ) → RangeCosts cells root last before before
  costs_none before = costs_of before before (0, omega arith, omega arith) (λ t h w. (0, omega arith, omega arith))

  -- a range that refuses met no tree
  pub range_refused : (m : Meaning E) (out : Option E) → Never cells root last → Ranges m cells root first last out
  range_refused m out never t h tr w = absurd (never t h w)

  pub costs_refused : (before after : ℕ) → Spent 48 before after → Never cells root last → RangeCosts cells root last before after
  costs_refused before after spent never = costs_of before after (spent.0, omega arith, spent.2) (λ t h w. absurd (never t h w))

  module _ (some : first < last) where
    pub no_fork : Forks cells root first last None → Never cells root last
    no_fork forks t h w = none-some (forks t h some w).1

    module _ (f : Fork) (forks : Forks cells root first last (Some f)) where
      forked : (t : Tree E) → Rooted cells root t → last ≤ size t → Forked cells t first last f
      forked t h w = let d = forks t h some w in subst (λ (v : Fork). Forked cells t first last v) (sym (some_one d.1)) d.2

      pub no_cell : None ≡ slice_get cells f.place → Never cells root last
      no_cell read t h w = none-some (read ∙ (forked t h w).stands.0)

      module _ (c : Cell E) (read : Some c ≡ slice_get cells f.place) where
        cell_is : (t : Tree E) → (k : Forked cells t first last f) → c ≡ cell k.left k.kind k.product k.right
        cell_is t k = some_one (read ∙ k.stands.0)

        left_rooted : (t : Tree E) → Rooted cells root t → (k : Forked cells t first last f) → Rooted cells c.left k.left
        left_rooted t h k = let low = k.low in let high = h.low in record { stands = k.stands.1; top = ap (λ (v : Cell E). v.left) (cell_is t k); low = omega arith }

        right_rooted : (t : Tree E) → Rooted cells root t → (k : Forked cells t first last f) → Rooted cells c.right k.right
        right_rooted t h k = let low = k.low in let high = h.low in record { stands = k.stands.2; top = ap (λ (v : Cell E). v.right) (cell_is t k); low = omega arith }

        module _ {m : Meaning E} (laws : Lawful m) (image : E) (image_is : image ≡ m.image c.kind) where
          front_is : (front : Option E) → TakesEnd m cells Back c.left f.before image front → (t : Tree E) → Rooted cells root t → True m t → (k : Forked cells t first last f) → front ≡ Some (image_of m (ending Back f.before (rows k.left) ++ (c.kind ∷ [])))
          front_is front before_it t h tr k = before_it k.left (left_rooted t h k) (k.truth m tr).1 k.within_left (c.kind ∷ []) (image_is ∙ sym (image_one laws c.kind))

          pub range_no_front : TakesEnd m cells Back c.left f.before image None → (out : Option E) → Ranges m cells root first last out
          range_no_front before_it out t h tr w = absurd (none-some (front_is None before_it t h tr (forked t h w)))

          pub ranged : (now : Meaning E) (front : E) (out : Option E) → now ≡ m → TakesEnd m cells Back c.left f.before image (Some front) → TakesEnd now cells Front c.right f.behind front out → Ranges m cells root first last out
          ranged now front out same before_it behind_it t h tr w =
              let k = forked t h w in
              let long = rows_long t in
              let before : Word = ending Back f.before (rows k.left) ++ (c.kind ∷ []) in
              let behind : Word = ending Front f.behind (rows k.right) in
              let told : TakesEnd m cells Front c.right f.behind front out = subst (λ (v : Meaning E). TakesEnd v cells Front c.right f.behind front out) same behind_it in
              let kind_is : c.kind ≡ k.kind = ap (λ (v : Cell E). v.kind) (cell_is t k) in
              let word_is : before ++ behind ≡ part (rows t) first last =
              append_assoc (ending Back f.before (rows k.left)) (c.kind ∷ []) behind ∙ ap (λ v. ending Back f.before (rows k.left) ++ (v ∷ behind)) kind_is ∙ sym k.part ∙ part_is (rows t) first last (omega arith) (omega arith) in
              told k.right (right_rooted t h k) (k.truth m tr).2 k.within_right before (some_one (front_is (Some front) before_it t h tr k)) ∙ ap (λ v. Some (image_of m v)) word_is

        -- where an end refuses, there is no tree
        pub never_left : Never cells c.left f.before → Never cells root last
        never_left never t h w = let k = forked t h w in never k.left (left_rooted t h k) k.within_left

        pub never_right : Never cells c.right f.behind → Never cells root last
        never_right never t h w = let k = forked t h w in never k.right (right_rooted t h k) k.within_right

        pub costs_no_front : (before after : ℕ) → Costs cells c.left f.before before after → RangeCosts cells root last before after
        costs_no_front before after costs =
            let spent = costs.always in
            costs_of before after (spent.0, omega arith, spent.2) (λ t h w.
            let k = forked t h w in
            let low = k.low in
            let left = costs.by_height k.left (left_rooted t h k) k.within_left in
            (left.0, omega arith, left.2))

        pub costs_both : (before middle after : ℕ) → Costs cells c.left f.before before middle → Costs cells c.right f.behind middle after → RangeCosts cells root last before after
        costs_both before middle after one two =
            let a = one.always in
            let b = two.always in
            costs_of before after (a.0 + b.0, omega arith, omega arith) (λ t h w.
            let k = forked t h w in
            let low = k.low in
            let left = one.by_height k.left (left_rooted t h k) k.within_left in
            let right = two.by_height k.right (right_rooted t h k) k.within_right in
            (left.0 + right.0, omega arith, omega arith))
