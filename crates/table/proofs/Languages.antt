-- The image of a word under a table is the product of its images in it.
use Rattle.std.proofs.Common.{◌≡◌, ℕ, zero, suc, true, false, [], ◌∷◌, get_or, replicate, sym, refl, ap, ◌∙◌, subst}
use Rattle.std.proofs.lemmas.Bool.{false≢true, cond-true, cond-false}
use Rattle.monoid.specs.Words.{Word, image_of, Recognises}
use Rattle.monoid.proofs.Words.{image_cons}
use Rattle.checks.specs.Verdicts.{accepted}
use Rattle.table.specs.declared.data.TableData.{TableData}
use Rattle.table.specs.Tables.{times, image_in, lit_in, trivial_data}
use Rattle.table.specs.Checks.{verdict_of, taken_data}
use Rattle.table.specs.Meanings.{table_of}
use Rattle.table.specs.Languages.{product_in, lit_product, Multiplies}
use Rattle.table.specs.Laws.{table_lawful}

module _ (d : TableData) (checked : accepted (verdict_of d) ≡ true) where
  pub image_multiplies : (w : Word) → image_of (table_of d) w ≡ product_in d w
  image_multiplies [] = refl
  image_multiplies (k ∷ w) = image_cons (table_lawful d checked) k w ∙ ap (times d (image_in d k)) (image_multiplies w)

  pub table_recognises : Recognises (table_of d) 0 (lit_product d)
  table_recognises = record {
    only = λ w h. sym (ap (lit_in d) (image_multiplies w)) ∙ h;
    every = λ w h. ap (lit_in d) (image_multiplies w) ∙ h;
  }

none_lit : (n x : ℕ) → get_or (replicate n false) x false ≡ false
none_lit zero x = refl
none_lit (suc n) zero = refl
none_lit (suc n) (suc x) = none_lit n x

pub trivial_recognises : Recognises (table_of trivial_data) 0 (λ w. ⊥)
trivial_recognises = record {
  only = λ w h. false≢true (sym (none_lit 8 (image_of (table_of trivial_data) w)) ∙ h);
  every = λ w h. absurd h;
}

-- a table made from the data taken recognises what they say
pub table_multiplies : (d t : TableData) → t ≡ taken_data d → Multiplies d (table_of t)
table_multiplies d t is = record {
  taken = λ yes_said. subst (λ (e : TableData). Recognises (table_of e) 0 (lit_product d)) (sym (is ∙ cond-true (accepted (verdict_of d)) d trivial_data yes_said)) (table_recognises d yes_said);
  declined = λ no_said. subst (λ (e : TableData). Recognises (table_of e) 0 (λ w. ⊥)) (sym (is ∙ cond-false (accepted (verdict_of d)) d trivial_data no_said)) trivial_recognises;
}
