-- A listing line by line, and the lamps that an answer shows: what a run over cells rests on.
use Rattle.std.proofs.Common.{◌≡◌, ℕ, suc, ◌-◌, ◌<◌, min, Bool, true, false, cond, List, [], ◌∷◌, ◌++◌, map, length, sym, ap, ◌∙◌, arith}
use Rattle.std.proofs.lemmas.List.FromFn.{length-map-range_with_len, get_or-map-range_with_len}
use Rattle.std.proofs.lemmas.List.{same_lists}
use Rattle.std.specs.List.{range_with_len, flat_map}
use Rattle.monoid.proofs.Lighting.{lights_of}
use Rattle.monoid.specs.Lamps.{lights, lamps_of}
use Rattle.monoid.specs.Laws.{Shaped}
use Rattle.monoid.specs.Meaning.{Meaning}
use Rattle.script.specs.Parts.{Bytes}
use Rattle.listing.specs.declared.ending.Ending.TheVariants.{OutputFull}
use Rattle.listing.specs.Answers.{ended, lamps_shown}
use Rattle.listing.specs.Listings.{Run, fitting, ending, listing}
use Rattle.listing.specs.Outputs.{has_room}

-- what a run writes after a text
abbrev pub after : Bytes → Run → Run
after text r = record { ending = r.ending; lines = suc r.lines; bytes = ended text ++ r.bytes }

abbrev pub nothing_more : Run
nothing_more = record { ending = OutputFull; lines = 0; bytes = [] }

module _ (room : ℕ) (text : Bytes) (texts : List Bytes) where
  abbrev by_room : Bool → Run
  by_room free =
      record {
        ending = cond free (ending (room - length (ended text)) texts) OutputFull;
        lines = length (cond free (text ∷ fitting (room - length (ended text)) texts) []);
        bytes = flat_map ended (cond free (text ∷ fitting (room - length (ended text)) texts) []);
      }

  -- a text that finds room, and one that does not
  pub listing_more : has_room room ≡ true → listing room (text ∷ texts) ≡ after text (listing (room - length (ended text)) texts)
  listing_more e = ap by_room e

  pub listing_full : has_room room ≡ false → listing room (text ∷ texts) ≡ nothing_more
  listing_full e = ap by_room e

-- the lamps of an element that an answer shows are those of the meaning, from lamp 0
pub shown_by : {E : Type 0} (m : Meaning E) (x : E) → Shaped m → lamps_shown (lamps_of m x) ≡ map (m.lit x) (range_with_len 0 m.width)
shown_by m x shaped =
    let n : ℕ = m.width in
    let all : min n 16 ≡ n = omega (arith, shaped.few_lamps) in
    ap (λ k. map (lights (lamps_of m x)) (range_with_len 0 k)) all
    ∙ same_lists (map (lights (lamps_of m x)) (range_with_len 0 n)) (map (m.lit x) (range_with_len 0 n))
    (length-map-range_with_len (lights (lamps_of m x)) 0 n ∙ sym (length-map-range_with_len (m.lit x) 0 n))
    (λ j d h.
    let low : j < n = omega (arith, length-map-range_with_len (lights (lamps_of m x)) 0 n) in
    get_or-map-range_with_len (lights (lamps_of m x)) 0 n j j d low (omega arith)
    ∙ lights_of shaped x j
    ∙ sym (get_or-map-range_with_len (m.lit x) 0 n j j d low (omega arith)))
