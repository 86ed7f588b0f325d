-- Products of images, told by the recogniser that means m by now.
use Rattle.std.proofs.Common.{◌≡◌, [], ◌∷◌, sym, ◌∙◌, subst}
use Rattle.rows.specs.declared.kind.Kind.{Kind}
use Rattle.monoid.specs.Meaning.{Meaning}
use Rattle.monoid.specs.Words.{image_of}
use Rattle.monoid.specs.Laws.{Lawful}
use Rattle.monoid.proofs.Words.{image_sound, image_one, image_append}
use Rattle.cells.specs.Trees.{Tree, leaf, node, rows}
use Rattle.cells.specs.Truth.{True}
use Rattle.cells.specs.Rooted.{stored}
use Rattle.ranges.specs.declared.end.End.{End}
use Rattle.ranges.specs.Ends.{beside}
use Rattle.ranges.specs.Joins.{JoinsAt, Extends}

-- the image of two words together is the product of their images
pub ruleset two_words = (image_sound, image_append)

module _ {E : Type 0} {m : Meaning E} (laws : Lawful m) where
  pub extended : (now : Meaning E) → now ≡ m → (end : End) (image other word stretch out : E) (kind : Kind) → image ≡ m.image kind → JoinsAt m end stretch image other → JoinsAt now end word other out → Extends m end word stretch kind out
  extended now same end image other word stretch out kind image_is inner outer u v word_is stretch_is =
      subst (λ (w : Meaning E). JoinsAt w end word other out) same outer u (beside end v (kind ∷ [])) word_is (inner v (kind ∷ []) stretch_is (image_is ∙ sym (image_one laws kind)))

-- what a true tree stores is the image of its rows
pub stored_is : {E : Type 0} (m : Meaning E) (unit : E) (t : Tree E) → True m t → unit ≡ m.unit → stored unit t ≡ image_of m (rows t)
stored_is m unit leaf tr e = e
stored_is m unit (node l i k p r) tr e = tr.0
