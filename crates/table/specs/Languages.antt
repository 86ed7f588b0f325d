-- The language of a table: the words whose images have a lit product in it.
use Rattle.std.specs.Prelude.{◌≡◌, ℕ, true, false, [], ◌∷◌}
use Rattle.monoid.specs.Meaning.{Meaning}
use Rattle.monoid.specs.Words.{Word, Recognises}
use Rattle.checks.specs.Verdicts.{accepted}
use Rattle.table.specs.declared.data.TableData.{TableData}
use Rattle.table.specs.Tables.{times, image_in, lit_in}
use Rattle.table.specs.Checks.{verdict_of}

-- the product of the images of a word's rows, as it stands in the table
abbrev pub product_in : TableData → Word → ℕ
product_in d [] = 0
product_in d (k ∷ w) = times d (image_in d k) (product_in d w)

abbrev pub lit_product : TableData → Word → Type 0
lit_product d w = lit_in d (product_in d w) ≡ true

-- what the lamp of a table made from data recognises
pub record Multiplies (d : TableData) (m : Meaning ℕ) : Type 0 where
  pub taken : accepted (verdict_of d) ≡ true → Recognises m 0 (lit_product d)
  pub declined : accepted (verdict_of d) ≡ false → Recognises m 0 (λ w. ⊥)
