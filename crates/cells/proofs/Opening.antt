-- A cell that was read at the root of a tree: the tree is a node, and the cell is its cell.
use Rattle.std.proofs.Common.{◌≡◌, ℕ, List, Some, None, sym, ap, ◌∙◌, arith}
use Rattle.std.specs.List.{slice_get}
use Rattle.rows.specs.declared.kind.Kind.{Kind}
use Rattle.cells.specs.declared.cell.Cell.{Cell}
use Rattle.cells.specs.Trees.{Tree, leaf, node, link, cell, Stands}
use Rattle.cells.proofs.Lookup.{some_one, none-some}

module _ {E : Type 0} (cells : List (Cell E)) where
  pub record Open (i : ℕ) (c : Cell E) (t : Tree E) : Type 0 where
    pub l : Tree E
    pub k : Kind
    pub p : E
    pub r : Tree E
    pub is_node : t ≡ node l i k p r
    pub is_cell : c ≡ cell l k p r
    pub stands_l : Stands cells l
    pub stands_r : Stands cells r

  pub open_at : (i : ℕ) (c : Cell E) (t : Tree E) → Some i ≡ link t → Stands cells t → Some c ≡ slice_get cells i → Open i c t
  open_at i c leaf e s read = let z : ◌≡◌ {A = ℕ} 0 1 = cc in absurd (omega arith)
  open_at i c (node l j k p r) e s read =
      let same : i ≡ j = some_one e in
      record { l = l; k = k; p = p; r = r; is_node = ap (λ v. node l v k p r) (sym same); is_cell = some_one (read ∙ ap (slice_get cells) same ∙ s.0); stands_l = s.1; stands_r = s.2 }

  -- there is a cell at the root
  pub no_cell : (i : ℕ) (t : Tree E) → Some i ≡ link t → Stands cells t → None ≡ slice_get cells i → ⊥
  no_cell i leaf e s read = let z : ◌≡◌ {A = ℕ} 0 1 = cc in omega arith
  no_cell i (node l j k p r) e s read = none-some (read ∙ ap (slice_get cells) (some_one e) ∙ s.0)
