-- The words in which a pile of every layer lights its lamp: no collection at the end, or no summary between two parts that begin with one.
use Rattle.std.specs.Prelude.{Bool, true, false, List, [], ◌∷◌, replicate, reverse}
use Rattle.monoid.specs.Words.{Word}
use Rattle.table.specs.declared.data.TableData.{TableData}
use Rattle.table.specs.Languages.{lit_product}
use Rattle.before_after.specs.Marked.{Marked}
use Rattle.layers_tests.specs.First.{first_meaning}

-- x·y is x unless x is 0, else y; a collection is 1 and lit, every other kind 2
abbrev pub begun_data : TableData
begun_data = record {
  size = 3;
  products = (0 ∷ (1 ∷ (2 ∷ replicate 5 0))) ∷ ((1 ∷ (1 ∷ (1 ∷ replicate 5 0))) ∷ ((2 ∷ (2 ∷ (2 ∷ replicate 5 0))) ∷ replicate 5 (replicate 8 0)));
  images = 2 ∷ (2 ∷ (2 ∷ (2 ∷ (2 ∷ (1 ∷ (2 ∷ (2 ∷ [])))))));
  lit = false ∷ (true ∷ replicate 6 false);
}

abbrev pub summaries : List Bool
summaries = false ∷ (false ∷ (false ∷ (false ∷ (false ∷ (false ∷ (true ∷ (false ∷ [])))))))

-- some summary has a word before it and a word after it that both begin with a collection
abbrev pub Between : Word → Type 0
Between w = Marked first_meaning first_meaning summaries w

-- the word read backwards is not in the table's language, or no summary stands between
abbrev pub NotBoth : Word → Type 0
NotBoth w = lit_product begun_data (reverse w) × Between w → ⊥
