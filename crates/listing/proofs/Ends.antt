-- What the three numbers of a run mean.
use Rattle.std.proofs.Common.{◌≡◌, ℕ, zero, suc, ◌-◌, ◌<◌, ◌≤◌, Bool, true, false, cond, List, [], ◌∷◌, length, take, sym, refl, subst, ap, ◌∙◌, ◌⊎◌, ⊎_elim, inl, inr, arith}
use Rattle.std.proofs.lemmas.Bool.{cases_Bool, cond-true, cond-false, cond_both, leb-true, leb-false}
use Rattle.std.proofs.lemmas.List.{length-append}
use Rattle.std.specs.List.{flat_map}
use Rattle.monoid.specs.Words.{Word}
use Rattle.script.specs.Lines.{lines}
use Rattle.script.specs.Parts.{Bytes}
use Rattle.listing.specs.declared.ending.Ending.TheVariants.{Complete, OutputFull, ScriptTooLong}
use Rattle.listing.specs.Answers.{ended}
use Rattle.listing.specs.Endings.{ending_number}
use Rattle.listing.specs.Ends.{Ends, taken}
use Rattle.listing.specs.Listings.{answers_to, fitting, ending, listing, is_workable, run, numbers}
use Rattle.listing.specs.Outputs.{has_room}
use Rattle.listing.proofs.Listing.{listed, fitting_first}

-- the room that is left behind the first of some texts
abbrev left : ℕ → List Bytes → ℕ → ℕ
left room texts k = room - length (flat_map ended (take k texts))

left_more : (room k : ℕ) (text : Bytes) (texts : List Bytes) → left (room - length (ended text)) texts k ≡ left room (text ∷ texts) (suc k)
left_more room k text texts = omega (arith, length-append (ended text) (flat_map ended (take k texts)))

-- before each text that is written there is room
had_more : (room k : ℕ) (text : Bytes) (texts : List Bytes) → 96 ≤ room → ((j : ℕ) → j < length (fitting (room - length (ended text)) texts) → 96 ≤ left (room - length (ended text)) texts j)
    → k < suc (length (fitting (room - length (ended text)) texts)) → 96 ≤ left room (text ∷ texts) k
had_more room zero text texts enough more low = omega arith
had_more room (suc k) text texts enough more low = subst (λ n. 96 ≤ n) (left_more room k text texts) (more k (omega arith))

had : (room k : ℕ) (texts : List Bytes) → k < length (fitting room texts) → 96 ≤ left room texts k
had room k [] low = absurd (omega arith)
had room k (text ∷ texts) low =
    let less : ℕ = room - length (ended text) in
    ⊎_elim
    (λ (free : has_room room ≡ true).
    had_more room k text texts (leb-true 96 room free) (λ j h. had less j texts h) (subst (λ ts. k < length ts) (cond-true (has_room room) (text ∷ fitting less texts) [] free) low))
    (λ (full : has_room room ≡ false).
    let none : k < 0 = subst (λ ts. k < length ts) (cond-false (has_room room) (text ∷ fitting less texts) [] full) low in
    absurd (omega arith))
    (cases_Bool (has_room room))

-- a listing ends with all texts written, or where no room is left
abbrev Ended : ℕ → List Bytes → Type 0
Ended room texts =
    ((ending room texts ≡ Complete) × (length (fitting room texts) ≡ length texts))
    ⊎ ((ending room texts ≡ OutputFull) × ((length (fitting room texts) < length texts) × (left room texts (length (fitting room texts)) < 96)))

how : (room : ℕ) (texts : List Bytes) → Ended room texts
how room [] = inl (refl, refl)
how room (text ∷ texts) = go (has_room room) refl (how (room - length (ended text)) texts) where
  less : ℕ
  less = room - length (ended text)

  Goal : Bool → Type 0
  Goal v =
      let fits : List Bytes = cond v (text ∷ fitting (room - length (ended text)) texts) [] in
      ((cond v (ending (room - length (ended text)) texts) OutputFull ≡ Complete) × (length fits ≡ suc (length texts)))
      ⊎ ((cond v (ending (room - length (ended text)) texts) OutputFull ≡ OutputFull) × ((length fits < suc (length texts)) × (left room (text ∷ texts) (length fits) < 96)))

  go : (v : Bool) → has_room room ≡ v → Ended (room - length (ended text)) texts → Goal v
  go true e (inl all) = inl (all.0, ap suc all.1)
  go true e (inr some) = inr (some.0, (omega (arith, some.1.0), subst (λ n. n < 96) (left_more room (length (fitting (room - length (ended text)) texts)) text texts) some.1.1))
  go false e h = let small : room < 96 = leb-false 96 room e in inr (refl, (omega arith, omega arith))

module _ (lamps : Word → List Bool) (capacity room : ℕ) (script : Bytes) where
  abbrev texts : List Bytes
  texts = answers_to lamps capacity script

  many : length texts ≡ length (lines script)
  many = (listed script).one_each lamps capacity

  -- no line of a script that is too long is worked
  too_long_ends : 16384 < length script → Ends lamps capacity room script (38, 0, 0)
  too_long_ends long =
      record {
        too_long = (λ e. long, λ l. refl);
        unworked = λ e. refl;
        full = (λ e. absurd (omega arith), λ l. absurd (omega arith));
        no_room = λ e. absurd (omega arith);
        complete = (λ e. absurd (omega arith), λ l. absurd (omega arith));
        within = omega arith;
        had_room = λ k low. absurd (omega arith);
        written = refl;
      }

  module _ (short : length script ≤ 16384) (n b : ℕ) (before : (k : ℕ) → k < n → 96 ≤ left room texts k) (bytes : b ≡ taken lamps capacity script n) where
    complete_ends : n ≡ length texts → Ends lamps capacity room script (0, n, b)
    complete_ends all =
        record {
          too_long = (λ e. absurd (omega arith), λ l. absurd (omega arith));
          unworked = λ e. absurd (omega arith);
          full = (λ e. absurd (omega arith), λ l. absurd (omega (arith, l.1, all, many)));
          no_room = λ e. absurd (omega arith);
          complete = (λ e. (short, all ∙ many), λ l. refl);
          within = omega (arith, all, many);
          had_room = before;
          written = bytes;
        }

    full_ends : n < length texts → left room texts n < 96 → Ends lamps capacity room script (37, n, b)
    full_ends some none =
        record {
          too_long = (λ e. absurd (omega arith), λ l. absurd (omega arith));
          unworked = λ e. absurd (omega arith);
          full = (λ e. (short, omega (arith, some, many)), λ l. refl);
          no_room = λ e. none;
          complete = (λ e. absurd (omega arith), λ l. absurd (omega (arith, l.1, some, many)));
          within = omega (arith, some, many);
          had_room = before;
          written = bytes;
        }

  listing_ends : length script ≤ 16384 → Ends lamps capacity room script (numbers (listing room texts))
  listing_ends short =
      let n : ℕ = length (fitting room texts) in
      let b : ℕ = length (flat_map ended (fitting room texts)) in
      let bytes : b ≡ taken lamps capacity script n = ap (λ ts. length (flat_map ended ts)) (fitting_first room texts) in
      let before : (k : ℕ) → k < n → 96 ≤ left room texts k = λ k low. had room k texts low in
      ⊎_elim
      (λ (all : (ending room texts ≡ Complete) × (n ≡ length texts)).
      subst (λ e. Ends lamps capacity room script (ending_number e, n, b)) (sym all.0) (complete_ends short n b before bytes all.1))
      (λ (some : (ending room texts ≡ OutputFull) × ((n < length texts) × (left room texts n < 96))).
      subst (λ e. Ends lamps capacity room script (ending_number e, n, b)) (sym some.0) (full_ends short n b before bytes some.1.0 some.1.1))
      (how room texts)

  -- so the three numbers of a run mean what they say
  pub ends : (answer : ℕ × ℕ × ℕ) → answer ≡ numbers (run lamps capacity room script) → Ends lamps capacity room script answer
  ends answer is =
      subst (Ends lamps capacity room script) (sym is)
      (cond_both (is_workable (length script)) (listing room texts) (record { ending = ScriptTooLong; lines = 0; bytes = [] }) (λ r. Ends lamps capacity room script (numbers r))
      (λ e. listing_ends (leb-true (length script) 16384 e))
      (λ e. too_long_ends (leb-false (length script) 16384 e)))
