-- Records and cells stand for one list of trees only.
use Rattle.std.proofs.Common.{◌≡◌, ℕ, Bool, List, [], ◌∷◌, sym, refl, ap, ◌∙◌, subst, ap₂}
use Rattle.monoid.specs.Meaning.{Meaning}
use Rattle.plain.specs.declared.state.State.{State}
use Rattle.plain.specs.Sheets.{Sheet}
use Rattle.records.specs.declared.records.Records.{Records}
use Rattle.records.specs.Changes.{Rooted}
use Rattle.cells.specs.declared.cell.Cell.{Cell}
use Rattle.cells.specs.Trees.{Tree, leaf, node, link, cell, At, Stands}
use Rattle.cells.proofs.Lookup.{some_one, none-some}
use Rattle.calls.specs.Models.{Model, recorded}
use Rattle.calls.specs.Sound.{AllHeld, own, Sound}

-- two trees that stand in the same cells under the same root are one
tree_only : {E : Type 0} (x : List (Cell E)) (t u : Tree E) → Stands x t → Stands x u → link t ≡ link u → t ≡ u
tree_only x leaf leaf s v e = refl
tree_only x leaf (node l i k p r) s v e = absurd (none-some e)
tree_only x (node l i k p r) leaf s v e = absurd (none-some (sym e))
tree_only {E} x (node l i k p r) (node l' j k' p' r') s v e =
    let place : i ≡ j = some_one e in
    let same : cell l k p r ≡ cell l' k' p' r' = some_one (sym s.0 ∙ subst (λ (q : ℕ). At x q (cell l' k' p' r')) (sym place) v.0) in
    let left = tree_only x l l' s.1 v.1 (ap (λ (c : Cell E). c.left) same) in
    let right = tree_only x r r' s.2 v.2 (ap (λ (c : Cell E). c.right) same) in
    let kind : k ≡ k' = ap (λ (c : Cell E). c.kind) same in
    let product : p ≡ p' = ap (λ (c : Cell E). c.product) same in
    cc

cons_head : {A : Type 0} {a b : A} {xs ys : List A} → a ∷ xs ≡ b ∷ ys → a ≡ b
cons_head e = cc

cons_tail : {A : Type 0} {a b : A} {xs ys : List A} → a ∷ xs ≡ b ∷ ys → xs ≡ ys
cons_tail e = cc

sheet_same : {X : Type 0} (s t : Sheet X) → s.tag ≡ t.tag → s.state ≡ t.state → s.rows ≡ t.rows → s ≡ t
sheet_same {X} s t tag state rows =
    let retagged : s ≡ record { tag = t.tag; state = s.state; rows = s.rows } = ap {B = Sheet X} (λ (v : ℕ). record { tag = v; state = s.state; rows = s.rows }) tag in
    let restated : ◌≡◌ {A = Sheet X} (record { tag = t.tag; state = s.state; rows = s.rows }) (record { tag = t.tag; state = t.state; rows = s.rows }) = ap {B = Sheet X} (λ (v : State). record { tag = t.tag; state = v; rows = s.rows }) state in
    retagged ∙ restated ∙ ap {B = Sheet X} (λ (v : X). record { tag = t.tag; state = t.state; rows = v }) rows

-- so two lists of sheets that the records say alike are one, where the cells hold them
model_only : {E : Type 0} (lawful : Bool) (m : Meaning E) (x : List (Cell E)) (ss ts : Model E) → recorded ss ≡ recorded ts → AllHeld lawful m x ss → AllHeld lawful m x ts → ss ≡ ts
model_only lawful m x [] [] e all others = refl
model_only lawful m x [] (t ∷ ts) e all others = cc
model_only lawful m x (s ∷ ss) [] e all others = cc
model_only {E} lawful m x (s ∷ ss) (t ∷ ts) e all others =
    let heads = cons_head e in
    let tails = cons_tail e in
    let rest : ss ≡ ts = model_only lawful m x ss ts tails all.1 others.1 in
    let tree : s.rows ≡ t.rows = tree_only x s.rows t.rows all.0.stands others.0.stands (ap (λ (h : Sheet Rooted). h.rows.1) heads) in
    let tag : s.tag ≡ t.tag = ap (λ (h : Sheet Rooted). h.tag) heads in
    let state : s.state ≡ t.state = ap (λ (h : Sheet Rooted). h.state) heads in
    ap₂ ◌∷◌ (sheet_same s t tag state tree) rest

-- a book that is sound is so of one list of sheets
pub only_model : {E : Type 0} (lawful : Bool) (m : Meaning E) (b : Records) (x : List (Cell E)) (model other : Model E) → Sound lawful m b x model → Sound lawful m b x other → other ≡ model
only_model lawful m b x model other sound sound' = model_only lawful m (own b x) other model (sym sound'.said ∙ sound.said) sound'.held sound.held
