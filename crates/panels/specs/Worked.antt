-- Worked examples: all the lamps of some words.
use Rattle.std.specs.Prelude.{◌≡◌, Bool, true, false, List, [], ◌∷◌, map, replicate}
use Rattle.std.specs.List.{range_with_len}
use Rattle.rows.specs.declared.kind.Kind.TheVariants.{Heading, Item, ProvisionalSum, Note, Collection, Summary, Blank}
use Rattle.monoid.specs.Meaning.{Meaning}
use Rattle.monoid.specs.Words.{Word, image_of}
use Rattle.panels.specs.Panels.{panel_one, panel_two}

-- whether each lamp of a word is lit, from lamp 0 to the last
abbrev pub every_lamp : {E : Type 0} → Meaning E → Word → List Bool
every_lamp m w = map (m.lit (image_of m w)) (range_with_len 0 m.width)

abbrev four : Bool → Bool → Bool → Bool → List Bool
four a b c d = a ∷ (b ∷ (c ∷ (d ∷ [])))

abbrev one : Bool → List Bool
one a = a ∷ []

pub record Worked : Type 0 where
  pub one_empty : every_lamp panel_one [] ≡ four true true false true
  pub one_heading_item_collection : every_lamp panel_one (Heading ∷ (Item ∷ (Collection ∷ []))) ≡ four true false false true
  pub one_heading_item : every_lamp panel_one (Heading ∷ (Item ∷ [])) ≡ four false false false true
  pub one_two_notes : every_lamp panel_one (Note ∷ (Note ∷ [])) ≡ four true false false false
  pub one_provisional : every_lamp panel_one (ProvisionalSum ∷ []) ≡ four false false false true
  pub one_ten_blanks : every_lamp panel_one (replicate 10 Blank) ≡ four true true false true
  pub two_empty : every_lamp panel_two [] ≡ one false
  pub two_collection : every_lamp panel_two (Collection ∷ []) ≡ one true
  pub two_collection_summary : every_lamp panel_two (Collection ∷ (Summary ∷ [])) ≡ one false
