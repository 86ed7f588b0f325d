-- Products of elements that are images of words, by these words.
use Rattle.std.specs.Prelude.{◌≡◌, [], ◌∷◌, ◌++◌}
use Rattle.rows.specs.declared.kind.Kind.{Kind}
use Rattle.monoid.specs.Meaning.{Meaning}
use Rattle.monoid.specs.Words.{Word, image_of}
use Rattle.ranges.specs.declared.end.End.{End}
use Rattle.ranges.specs.Ends.{beside}

-- the image of one word and then the other
abbrev pub Joins : {E : Type 0} → Meaning E → E → E → E → Type 0
Joins m x y out = (u v : Word) → x ≡ image_of m u → y ≡ image_of m v → out ≡ image_of m (u ++ v)

-- the image of one word and the other beside it
abbrev pub JoinsAt : {E : Type 0} → Meaning E → End → E → E → E → Type 0
JoinsAt m end x y out = (u v : Word) → x ≡ image_of m u → y ≡ image_of m v → out ≡ image_of m (beside end u v)

-- the image of a word, a stretch beside it and a row beside that
abbrev pub Extends : {E : Type 0} → Meaning E → End → E → E → Kind → E → Type 0
Extends m end x stretch kind out = (u v : Word) → x ≡ image_of m u → stretch ≡ image_of m v → out ≡ image_of m (beside end u (beside end v (kind ∷ [])))
