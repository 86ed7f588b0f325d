-- A row whose stored product is computed anew.
use Rattle.std.proofs.Common.{◌≡◌, ℕ, List, [], ◌∷◌, ◌++◌, set, Some, None, Option, sym, refl, ap, ◌∙◌, append_assoc, arith}
use Rattle.std.specs.List.{slice_get}
use Rattle.rows.specs.declared.kind.Kind.{Kind}
use Rattle.monoid.specs.Meaning.{Meaning}
use Rattle.monoid.specs.Words.{image_of}
use Rattle.cells.specs.declared.cell.Cell.{Cell}
use Rattle.cells.specs.declared.stretch.Stretch.{Stretch}
use Rattle.cells.specs.Trees.{Tree, node, rows, cell, Stands}
use Rattle.cells.specs.Rooted.{StretchAt}
use Rattle.cells.proofs.Lookup.{some_one, none-some}
use Rattle.ranges.proofs.Joining.{stored_is}
use Rattle.whole.specs.Renewing.{Between, Refreshes, Two}

-- a refusal asked for no product
pub none_asked : (out : Option ℕ) (t : ℕ) → out ≡ None → Two out t t
none_asked out t e = record { made = λ j is. absurd (none-some (sym e ∙ is)); always = (0, omega arith, omega arith) }

-- the cell with another product
abbrev pub with_product : {E : Type 0} → Cell E → E → Cell E
with_product c p = record { kind = c.kind; left = c.left; right = c.right; height = c.height; size = c.size; product = p }

module _ {E : Type 0} (m : Meaning E) (Orderly : Type 0) (x : List (Cell E)) (i : ℕ) where
  pub refresh_no_cell : None ≡ slice_get x i → (y : List (Cell E)) (out : Option ℕ) → Refreshes m Orderly x y i out
  refresh_no_cell read y out l k p r s = absurd (none-some (read ∙ s.0))

  module _ (c : Cell E) (read : Some c ≡ slice_get x i) (unit : E) where
    cell_is : (l : Tree E) (k : Kind) (p : E) (r : Tree E) → Stands x (node l i k p r) → c ≡ cell l k p r
    cell_is l k p r s = some_one (read ∙ s.0)

    pub refresh_no_left : StretchAt x c.left unit None → (y : List (Cell E)) (out : Option ℕ) → Refreshes m Orderly x y i out
    refresh_no_left below y out l k p r s = absurd (none-some (below l s.1 (ap (λ (v : Cell E). v.left) (cell_is l k p r s))))

    pub refresh_no_right : StretchAt x c.right unit None → (y : List (Cell E)) (out : Option ℕ) → Refreshes m Orderly x y i out
    refresh_no_right below y out l k p r s = absurd (none-some (below r s.2 (ap (λ (v : Cell E). v.right) (cell_is l k p r s))))

    pub refreshed : (a b : Stretch E) (product : E) (y : List (Cell E)) → StretchAt x c.left unit (Some a) → StretchAt x c.right unit (Some b) → (Orderly → unit ≡ m.unit) → (Orderly → Between m a.product c.kind b.product product) → y ≡ set x i (with_product c product) → Refreshes m Orderly x y i (Some i)
    refreshed a b product y below_l below_r unit_is made after l k p r s =
        let e = cell_is l k p r s in
        let a_is = ap (λ (v : Stretch E). v.product) (some_one (below_l l s.1 (ap (λ (v : Cell E). v.left) e))) in
        let b_is = ap (λ (v : Stretch E). v.product) (some_one (below_r r s.2 (ap (λ (v : Cell E). v.right) e))) in
        let k_is : c.kind ≡ k = ap (λ (v : Cell E). v.kind) e in
        record {
          product = product;
          given = refl;
          after = after ∙ ap (λ (v : Cell E). set x i (with_product v product)) e;
          value = λ o tl tr. made o (rows l) (rows r) (a_is ∙ stored_is m unit l tl (unit_is o)) (b_is ∙ stored_is m unit r tr (unit_is o)) ∙ ap (image_of m) (append_assoc (rows l) (c.kind ∷ []) (rows r)) ∙ ap (λ v. image_of m (rows l ++ (v ∷ rows r))) k_is;
        }
