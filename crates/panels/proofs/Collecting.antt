-- The products of the tables over collections: whether there is one, and what the first row is.
use Rattle.std.proofs.Common.{◌≡◌, ℕ, false, eqb, ◌↔◌, [], ◌∷◌, sym, refl, ap, ◌∙◌, ap₂, arith}
use Rattle.std.proofs.lemmas.Bool.{eqb-false, false≢true}
use Rattle.rows.specs.declared.kind.Kind.{Kind}
use Rattle.rows.specs.declared.kind.Kind.TheVariants.{Heading, Item, RateOnly, ProvisionalSum, Note, Collection, Summary, Blank}
use Rattle.rows.specs.Places.{place}
use Rattle.monoid.specs.Words.{Word}
use Rattle.table.specs.Tables.{times, image_in, lit_in}
use Rattle.table.specs.Languages.{product_in, lit_product}
use Rattle.panels.specs.Data.{some_collection_data, no_collection_data, first_data}
use Rattle.panels.specs.Sayings.{Has, here, later, StartsCollected}

-- a kind at another place is no collection
differs : {k : Kind} → eqb (place k) (place Collection) ≡ false → k ≡ Collection → ⊥
differs {k} apart e = eqb-false (place k) (place Collection) apart (ap place e)

-- what the greater of the images says of a word: 1 where a collection stands in it, and 0 where none does
data Greatest (w : Word) : Type 0 where
  some : product_in some_collection_data w ≡ 1 → Has Collection w → Greatest w
  none : product_in some_collection_data w ≡ 0 → (Has Collection w → ⊥) → Greatest w

-- a row that is no collection adds none
not_here : {k : Kind} {w : Word} → (k ≡ Collection → ⊥) → (Has Collection w → ⊥) → Has Collection (k ∷ w) → ⊥
not_here other none-later here = other refl
not_here other none-later (later h) = none-later h

nothing_has : {k : Kind} → Has k [] → ⊥
nothing_has h = elim h [ ]

-- a collection makes the product 1, and any other row leaves it as it is
with_collection : (w : Word) → Greatest w → Greatest (Collection ∷ w)
with_collection w (some e h) = some (ap (times some_collection_data 1) e) here
with_collection w (none e h) = some (ap (times some_collection_data 1) e) here

with_other : (k : Kind) (w : Word) → image_in some_collection_data k ≡ 0 → (k ≡ Collection → ⊥) → Greatest w → Greatest (k ∷ w)
with_other k w zero_image other (some e h) = some (ap₂ (times some_collection_data) zero_image e) (later h)
with_other k w zero_image other (none e h) = none (ap₂ (times some_collection_data) zero_image e) (not_here other h)

greatest : (w : Word) → Greatest w
greatest [] = none refl nothing_has
greatest (Heading ∷ w) = with_other Heading w refl (differs refl) (greatest w)
greatest (Item ∷ w) = with_other Item w refl (differs refl) (greatest w)
greatest (RateOnly ∷ w) = with_other RateOnly w refl (differs refl) (greatest w)
greatest (ProvisionalSum ∷ w) = with_other ProvisionalSum w refl (differs refl) (greatest w)
greatest (Note ∷ w) = with_other Note w refl (differs refl) (greatest w)
greatest (Collection ∷ w) = with_collection w (greatest w)
greatest (Summary ∷ w) = with_other Summary w refl (differs refl) (greatest w)
greatest (Blank ∷ w) = with_other Blank w refl (differs refl) (greatest w)

pub collected_said : (w : Word) → lit_product some_collection_data w ↔ Has Collection w
collected_said w = go (greatest w)
  where
    go : Greatest w → lit_product some_collection_data w ↔ Has Collection w
    go (some e h) = (λ lit. h, λ has. ap (lit_in some_collection_data) e)
    go (none e h) = (λ lit. absurd (false≢true (sym (ap (lit_in some_collection_data) e) ∙ lit)), λ has. absurd (h has))

pub uncollected_said : (w : Word) → lit_product no_collection_data w ↔ (Has Collection w → ⊥)
uncollected_said w = go (greatest w)
  where
    go : Greatest w → lit_product no_collection_data w ↔ (Has Collection w → ⊥)
    go (some e h) = (λ lit. absurd (false≢true (sym (ap (lit_in no_collection_data) e) ∙ lit)), λ none_there. absurd (none_there h))
    go (none e h) = (λ lit. h, λ none_there. ap (lit_in no_collection_data) e)

-- the first row decides the product in the table of first rows
data First (w : Word) : Type 0 where
  no_row : product_in first_data w ≡ 0 → w ≡ [] → First w
  collection : (v : Word) → product_in first_data w ≡ 1 → w ≡ Collection ∷ v → First w
  other_row : product_in first_data w ≡ 2 → ((v : Word) → w ≡ Collection ∷ v → ⊥) → First w

-- whatever follows, the product is what the first row gives
takes_first : (x : ℕ) (w : Word) → times first_data x 0 ≡ x → times first_data x 1 ≡ x → times first_data x 2 ≡ x → First w → times first_data x (product_in first_data w) ≡ x
takes_first x w a b c (no_row e is) = ap (times first_data x) e ∙ a
takes_first x w a b c (collection v e is) = ap (times first_data x) e ∙ b
takes_first x w a b c (other_row e not) = ap (times first_data x) e ∙ c

starts_otherwise : (k : Kind) (w : Word) → image_in first_data k ≡ 2 → (k ≡ Collection → ⊥) → First w → First (k ∷ w)
starts_otherwise k w two other f = other_row (ap (λ x. times first_data x (product_in first_data w)) two ∙ takes_first 2 w refl refl refl f) (λ v e. let same : k ≡ Collection = cc in other same)

first_row : (w : Word) → First w
first_row [] = no_row refl refl
first_row (Heading ∷ w) = starts_otherwise Heading w refl (differs refl) (first_row w)
first_row (Item ∷ w) = starts_otherwise Item w refl (differs refl) (first_row w)
first_row (RateOnly ∷ w) = starts_otherwise RateOnly w refl (differs refl) (first_row w)
first_row (ProvisionalSum ∷ w) = starts_otherwise ProvisionalSum w refl (differs refl) (first_row w)
first_row (Note ∷ w) = starts_otherwise Note w refl (differs refl) (first_row w)
first_row (Collection ∷ w) = collection w (takes_first 1 w refl refl refl (first_row w)) refl
first_row (Summary ∷ w) = starts_otherwise Summary w refl (differs refl) (first_row w)
first_row (Blank ∷ w) = starts_otherwise Blank w refl (differs refl) (first_row w)

pub first_said : (w : Word) → lit_product first_data w ↔ StartsCollected w
first_said w = go (first_row w)
  where
    go : First w → lit_product first_data w ↔ StartsCollected w
    go (no_row e is) = (λ lit. absurd (false≢true (sym (ap (lit_in first_data) e) ∙ lit)), λ s. let start = s.parts in let z : ◌≡◌ {A = ℕ} 0 1 = cc in absurd (omega arith))
    go (collection v e is) = (λ lit. record { after = v; parts = is }, λ s. ap (lit_in first_data) e)
    go (other_row e not) = (λ lit. absurd (false≢true (sym (ap (lit_in first_data) e) ∙ lit)), λ s. absurd (not s.after s.parts))
