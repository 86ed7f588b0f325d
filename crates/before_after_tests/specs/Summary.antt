-- The words in which some summary has a collection before it and none after it.
use Rattle.std.specs.Prelude.{Bool, true, false, List, [], ◌∷◌}
use Rattle.monoid.specs.Words.{Word}
use Rattle.before_after.specs.Marked.{Marked}
use Rattle.before_after_tests.specs.Seen.{seen}

abbrev pub summaries : List Bool
summaries = false ∷ (false ∷ (false ∷ (false ∷ (false ∷ (false ∷ (true ∷ (false ∷ [])))))))

abbrev pub Closed : Word → Type 0
Closed w = Marked (seen true) (seen false) summaries w
