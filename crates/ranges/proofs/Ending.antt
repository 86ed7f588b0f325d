-- The rows at an end of a tree, by its two sides; the one place that tells the ends apart.
use Rattle.std.proofs.Common.{◌≡◌, ℕ, ◌+◌, ◌-◌, ◌<◌, ◌≤◌, [], ◌∷◌, ◌++◌, length, take, drop, sym, refl, ap, ◌∙◌, append_assoc, append-nil, arith, length-append}
use lib.Seq.{take-append-le, drop-append-le}
use Rattle.rows.specs.declared.kind.Kind.{Kind}
use Rattle.monoid.specs.Words.{Word}
use Rattle.cells.specs.Trees.{Tree, size, rows}
use Rattle.cells.proofs.Frame.{rows_long}
use Rattle.ranges.specs.declared.end.End.{End}
use Rattle.ranges.specs.declared.end.End.TheVariants.{Front, Back}
use Rattle.ranges.specs.Ends.{near, far, beside, ending}
use Rattle.ranges.proofs.Pieces.{take_over, drop_over}

-- a fact of both sides is one of the near and the far one
pub near_of : {X : Type 0} (P : X → Type 0) (end : End) (l r : X) → P l → P r → P (near end l r)
near_of P Front l r hl hr = hl
near_of P Back l r hl hr = hr

pub far_of : {X : Type 0} (P : X → Type 0) (end : End) (l r : X) → P l → P r → P (far end l r)
far_of P Front l r hl hr = hr
far_of P Back l r hl hr = hl

pub near_map : {X Y : Type 0} (f : X → Y) (end : End) (l r : X) → near end (f l) (f r) ≡ f (near end l r)
near_map f Front l r = refl
near_map f Back l r = refl

pub far_map : {X Y : Type 0} (f : X → Y) (end : End) (l r : X) → far end (f l) (f r) ≡ f (far end l r)
far_map f Front l r = refl
far_map f Back l r = refl

pub both_sizes : {E : Type 0} (end : End) (l r : Tree E) → size (near end l r) + size (far end l r) ≡ size l + size r
both_sizes Front l r = refl
both_sizes Back l r = omega arith

pub beside_assoc : (end : End) (u v w : Word) → beside end (beside end u v) w ≡ beside end u (beside end v w)
beside_assoc Front u v w = append_assoc u v w
beside_assoc Back u v w = sym (append_assoc w v u)

pub beside_none : (end : End) (u : Word) (n : ℕ) → n ≡ 0 → beside end u (ending end n []) ≡ u
beside_none Front u n e = ap (λ v. u ++ take v []) e ∙ append-nil u
beside_none Back u n e = ap (λ v. drop (0 - v) [] ++ u) e

module _ {E : Type 0} (l r : Tree E) (k : Kind) where
  whole_long : length (rows l ++ (k ∷ rows r)) ≡ size l + size r + 1
  whole_long = let a = rows_long l in let b = rows_long r in simp length-append (omega arith)

  -- few enough rows stand in the near side
  pub ending_near : (end : End) (n : ℕ) → n ≤ size (near end l r) → ending end n (rows l ++ (k ∷ rows r)) ≡ ending end n (rows (near end l r))
  ending_near Front n le = let a = rows_long l in take-append-le n (rows l) (k ∷ rows r) (omega arith)
  ending_near Back n le = let a = rows_long l in let b = rows_long r in let c = whole_long in drop_over (rows l) k (rows r) (length (rows l ++ (k ∷ rows r)) - n) (length (rows r) - n) (omega arith)

  -- more rows are the near side, the row itself, and some of the far side
  pub ending_far : (end : End) (n left : ℕ) → size (near end l r) < n → n ≤ size l + size r + 1 → left ≡ n - size (near end l r) - 1 → ending end n (rows l ++ (k ∷ rows r)) ≡ beside end (beside end (rows (near end l r)) (k ∷ [])) (ending end left (rows (far end l r)))
  ending_far Front n left lt le e =
      let a = rows_long l in
      take_over (rows l) k (rows r) n left (omega arith) ∙ sym (append_assoc (rows l) (k ∷ []) (take left (rows r)))
  ending_far Back n left lt le e =
      let a = rows_long l in
      let b = rows_long r in
      let c = whole_long in
      let same : length (rows l ++ (k ∷ rows r)) - n ≡ length (rows l) - left = omega arith in
      ap (λ v. drop v (rows l ++ (k ∷ rows r))) same ∙ drop-append-le (length (rows l) - left) (rows l) (k ∷ rows r) (omega arith)
