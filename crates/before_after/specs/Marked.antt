-- The words in which some marked row has a word of one language before it, and a word of another after it.
use Rattle.std.specs.Prelude.{◌≡◌, Bool, true, List, ◌∷◌, ◌++◌}
use Rattle.rows.specs.declared.kind.Kind.{Kind}
use Rattle.monoid.specs.Meaning.{Meaning}
use Rattle.monoid.specs.Words.{Word, language}
use Rattle.before_after.specs.BeforeAfter.{marked}

pub record Marked {E F : Type 0} (m : Meaning E) (m' : Meaning F) (marks : List Bool) (w : Word) : Type 0 where
  pub prefix : Word
  pub kind : Kind
  pub suffix : Word
  pub parts : w ≡ prefix ++ (kind ∷ suffix)
  pub is_marked : marked marks kind ≡ true
  pub before : language m 0 prefix
  pub after : language m' 0 suffix
