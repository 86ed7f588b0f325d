-- The texts of lamps, and that no answer has a byte 10 within.
use Rattle.std.proofs.Common.{◌≡◌, ℕ, ◌<◌, min, Bool, false, List, [], ◌∷◌, map, length, get_or, refl, ap, ◌∙◌, arith}
use Rattle.std.proofs.lemmas.List.FromFn.{length-map-range_with_len, get_or-map-range_with_len}
use Rattle.std.proofs.lemmas.List.{length-map, get_or-map}
use Rattle.monoid.specs.Lamps.{lights}
use Rattle.monoid.specs.declared.lamps.Lamps.{Lamps}
use Rattle.listing.specs.Answers.{lamp_digit, lamp_text, lamps_shown}

pub lamp_text-some : (lamps : List Bool) → 0 < length lamps → lamp_text lamps ≡ map lamp_digit lamps
lamp_text-some [] h = absurd (omega arith)
lamp_text-some (lit ∷ lamps) h = refl

pub lamp_text-none : (lamps : List Bool) → length lamps ≡ 0 → lamp_text lamps ≡ 45 ∷ []
lamp_text-none [] h = refl
lamp_text-none (lit ∷ lamps) h = absurd (omega arith)

module _ (lamps : Lamps) where
  pub length-shown : length (lamps_shown lamps) ≡ min lamps.width 16
  length-shown = length-map-range_with_len (lights lamps) 0 (min lamps.width 16)

  pub length_digits : length (map lamp_digit (lamps_shown lamps)) ≡ min lamps.width 16
  length_digits = length-map (lamps_shown lamps) lamp_digit ∙ length-shown

  pub digit_shown : (j : ℕ) → j < min lamps.width 16 → get_or (map lamp_digit (lamps_shown lamps)) j 0 ≡ lamp_digit (lights lamps j)
  digit_shown j h =
      get_or-map lamp_digit (lamps_shown lamps) j false 0 (omega (arith, length-shown))
      ∙ ap lamp_digit (get_or-map-range_with_len (lights lamps) 0 (min lamps.width 16) j j false h (omega arith))
