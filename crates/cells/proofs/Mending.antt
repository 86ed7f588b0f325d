-- The facts behind a mended cell.
use Rattle.std.proofs.Common.{◌≡◌, true, List, set, Some, refl, ap, ◌∙◌, subst}
use Rattle.monoid.specs.Meaning.{Meaning}
use Rattle.monoid.specs.Laws.{Lawful}
use Rattle.cells.specs.declared.cell.Cell.{Cell}
use Rattle.cells.specs.declared.links.Links.{Links}
use Rattle.cells.specs.declared.mend.Row.{Row}
use Rattle.cells.specs.declared.stretch.Stretch.{Stretch}
use Rattle.cells.specs.Trees.{Tree, leaf, node, cell}
use Rattle.cells.specs.Truth.{product, True}
use Rattle.cells.specs.Rooted.{stored, stretch, StretchAt}
use Rattle.cells.specs.Mends.{Roomy, Room, over, row_over, Mends}
use Rattle.cells.proofs.Lookup.{some_one}
use Rattle.cells.proofs.Products.{product_sound, image_over}

-- the product of a tree whose stretch was read with the unit
stored_is : {E : Type 0} (m : Meaning E) (unit : E) → unit ≡ m.unit → (t : Tree E) → stored unit t ≡ product m t
stored_is m unit is leaf = is
stored_is m unit is (node l i k p r) = refl

-- the product that was asked for, true where the trees are
fresh_over : {E : Type 0} {m : Meaning E} → Lawful m → (unit : E) → unit ≡ m.unit → (l r : Tree E) (row : Row) (p : E) → (m.sound (stored unit l) ≡ true → m.sound (stored unit r) ≡ true → p ≡ m.mul (m.mul (stored unit l) (m.image row.kind)) (stored unit r)) → True m l → True m r → True m (row_over l row p r)
fresh_over {m = m} laws unit is l r row p told hl hr =
    let sl = stored_is m unit is l in
    let sr = stored_is m unit is r in
    let p_is = told (ap m.sound sl ∙ product_sound laws l hl) (ap m.sound sr ∙ product_sound laws r hr) in
    (p_is ∙ ap (λ v. m.mul (m.mul v (m.image row.kind)) (stored unit r)) sl ∙ ap (m.mul (m.mul (product m l) (m.image row.kind))) sr ∙ image_over laws l row.kind r hl hr, hl, hr)

-- the cell that was built over the stretches, written
pub mended : {E : Type 0} (m : Meaning E) (due order : Type 0) (x y : List (Cell E)) (row : Row) (links : Links) (unit : E) (s t : Stretch E) (p : E) (c : Cell E) → (due → order) → (order → Lawful m) → (order → unit ≡ m.unit) → StretchAt x links.left unit (Some s) → StretchAt x links.right unit (Some t) → (due → m.sound s.product ≡ true → m.sound t.product ≡ true → p ≡ m.mul (m.mul s.product (m.image row.kind)) t.product) → (Roomy s t → c ≡ over row.kind links s t p) → y ≡ set x row.place c → Mends m due x y row links.left links.right (Some row.place)
mended {E} m due order x y row links unit s t p c owed laws neutral read_a read_b told built wrote l r sl sr el er room within =
    let is_s : s ≡ stretch unit l = some_one (read_a l sl el) in
    let is_t : t ≡ stretch unit r = some_one (read_b r sr er) in
    let built' : Room l r → c ≡ over row.kind links (stretch unit l) (stretch unit r) p = subst (λ (v : Stretch E). Roomy v (stretch unit r) → c ≡ over row.kind links v (stretch unit r) p) is_s (subst (λ (v : Stretch E). Roomy s v → c ≡ over row.kind links s v p) is_t built) in
    let told' : due → m.sound (stored unit l) ≡ true → m.sound (stored unit r) ≡ true → p ≡ m.mul (m.mul (stored unit l) (m.image row.kind)) (stored unit r) = subst (λ (v : Stretch E). due → m.sound v.product ≡ true → m.sound (stored unit r) ≡ true → p ≡ m.mul (m.mul v.product (m.image row.kind)) (stored unit r)) is_s (subst (λ (v : Stretch E). due → m.sound s.product ≡ true → m.sound v.product ≡ true → p ≡ m.mul (m.mul s.product (m.image row.kind)) v.product) is_t told) in
    let c_is : c ≡ cell l row.kind p r = built' room ∙ (let e = el in let e' = er in cc) in (
      refl,
      record {
        stored = p;
        after = wrote ∙ ap (set x row.place) c_is;
        fresh = λ d. fresh_over (laws (owed d)) unit (neutral (owed d)) l r row p (told' d);
      },
    )
