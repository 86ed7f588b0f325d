-- What a row stores is true where its sides are.
use Rattle.std.proofs.Common.{◌≡◌, true, ◌∷◌, ◌++◌, sym, refl, ap, ◌∙◌}
use Rattle.rows.specs.declared.kind.Kind.{Kind}
use Rattle.monoid.specs.Meaning.{Meaning}
use Rattle.monoid.specs.Words.{image_of}
use Rattle.monoid.specs.Laws.{Lawful}
use Rattle.monoid.proofs.Words.{image_sound, image_append, image_cons}
use Rattle.cells.specs.Trees.{Tree, leaf, node, rows}
use Rattle.cells.specs.Truth.{product, True}

-- the product of a true tree is the image of its rows
pub product_is : {E : Type 0} (m : Meaning E) (t : Tree E) → True m t → product m t ≡ image_of m (rows t)
product_is m leaf h = refl
product_is m (node l i k p r) h = h.0

module _ {E : Type 0} {m : Meaning E} (laws : Lawful m) where
  pub product_sound : (t : Tree E) → True m t → m.sound (product m t) ≡ true
  product_sound t h = ap m.sound (product_is m t h) ∙ image_sound laws (rows t)

  pub image_over : (l : Tree E) (k : Kind) (r : Tree E) → True m l → True m r → m.mul (m.mul (product m l) (m.image k)) (product m r) ≡ image_of m (rows l ++ (k ∷ rows r))
  image_over l k r hl hr =
      let il = image_of m (rows l) in
      let ir = image_of m (rows r) in
      let sl = image_sound laws (rows l) in
      let sr = image_sound laws (rows r) in
      ap (λ v. m.mul (m.mul v (m.image k)) (product m r)) (product_is m l hl)
      ∙ ap (m.mul (m.mul il (m.image k))) (product_is m r hr)
      ∙ laws.assoc il (m.image k) ir sl (laws.sound_image k) sr
      ∙ ap (m.mul il) (sym (image_cons laws k (rows r)))
      ∙ sym (image_append laws (rows l) (k ∷ rows r))
