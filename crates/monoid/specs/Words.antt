-- Words of rows, their images, and the languages that a recogniser recognises.
use Rattle.std.specs.Prelude.{◌≡◌, ℕ, true, List, [], ◌∷◌}
use Rattle.rows.specs.declared.kind.Kind.{Kind}
use Rattle.monoid.specs.Meaning.{Meaning}

abbrev pub Word : Type 0
Word = List Kind

-- x multiplied by the images of the rows from first to last
abbrev pub run : {E : Type 0} → Meaning E → E → Word → E
run m x [] = x
run m x (k ∷ ks) = run m (m.mul x (m.image k)) ks

-- the image of a word: the unit multiplied by the images of its rows
abbrev pub image_of : {E : Type 0} → Meaning E → Word → E
image_of m w = run m m.unit w

-- the language of lamp j: the words whose image lights it
abbrev pub language : {E : Type 0} → Meaning E → ℕ → Word → Type 0
language m j w = m.lit (image_of m w) j ≡ true

-- lamp j recognises L: its language has the words of L and no others
pub record Recognises {E : Type 0} (m : Meaning E) (j : ℕ) (L : Word → Type 0) : Type 0 where
  pub only : (w : Word) → language m j w → L w
  pub every : (w : Word) → L w → language m j w
