-- The runs for two adjoining notes, from each state.
use Rattle.std.proofs.Common.{◌≡◌, ℕ, Bool, true, ◌↔◌, [], ◌∷◌, ◌++◌, refl, ap, ◌∙◌}
use Rattle.std.proofs.lemmas.Bool.{false≢true}
use Rattle.rows.specs.declared.kind.Kind.{Kind}
use Rattle.rows.specs.declared.kind.Kind.TheVariants.{Heading, Item, RateOnly, ProvisionalSum, Note, Collection, Summary, Blank}
use Rattle.monoid.specs.Words.{Word}
use Rattle.automaton.specs.States.{is_lit}
use Rattle.automaton.specs.Languages.{run_from, ends_lit}
use Rattle.panels.specs.Data.{adjoining_data}
use Rattle.panels.specs.Sayings.{Adjoining}

-- whether a run from a state ends lit
abbrev seen : ℕ → Word → Bool
seen s w = is_lit adjoining_data (run_from adjoining_data s w)

-- two notes that were seen stay seen
stays : (w : Word) → seen 2 w ≡ true
stays [] = refl
stays (Heading ∷ w) = stays w
stays (Item ∷ w) = stays w
stays (RateOnly ∷ w) = stays w
stays (ProvisionalSum ∷ w) = stays w
stays (Note ∷ w) = stays w
stays (Collection ∷ w) = stays w
stays (Summary ∷ w) = stays w
stays (Blank ∷ w) = stays w

-- two adjoining notes after one row more
after_row : (k : Kind) {w : Word} → Adjoining w → Adjoining (k ∷ w)
after_row k a = record { before = k ∷ a.before; after = a.after; parts = ap (λ l. k ∷ l) a.parts }

-- a run that ends lit from no note, or from one note, met two
mutual
  met : (w : Word) → seen 0 w ≡ true → Adjoining w
  met [] h = absurd (false≢true h)
  met (Heading ∷ w) h = after_row Heading (met w h)
  met (Item ∷ w) h = after_row Item (met w h)
  met (RateOnly ∷ w) h = after_row RateOnly (met w h)
  met (ProvisionalSum ∷ w) h = after_row ProvisionalSum (met w h)
  met (Note ∷ w) h = met_after w h
  met (Collection ∷ w) h = after_row Collection (met w h)
  met (Summary ∷ w) h = after_row Summary (met w h)
  met (Blank ∷ w) h = after_row Blank (met w h)

  met_after : (w : Word) → seen 1 w ≡ true → Adjoining (Note ∷ w)
  met_after [] h = absurd (false≢true h)
  met_after (Heading ∷ w) h = after_row Note (after_row Heading (met w h))
  met_after (Item ∷ w) h = after_row Note (after_row Item (met w h))
  met_after (RateOnly ∷ w) h = after_row Note (after_row RateOnly (met w h))
  met_after (ProvisionalSum ∷ w) h = after_row Note (after_row ProvisionalSum (met w h))
  met_after (Note ∷ w) h = record { before = []; after = w; parts = refl }
  met_after (Collection ∷ w) h = after_row Note (after_row Collection (met w h))
  met_after (Summary ∷ w) h = after_row Note (after_row Summary (met w h))
  met_after (Blank ∷ w) h = after_row Note (after_row Blank (met w h))

-- and wherever two notes adjoin, every run sees them
mutual
  sees : (before after : Word) → seen 0 (before ++ (Note ∷ (Note ∷ after))) ≡ true
  sees [] after = stays after
  sees (Heading ∷ b) after = sees b after
  sees (Item ∷ b) after = sees b after
  sees (RateOnly ∷ b) after = sees b after
  sees (ProvisionalSum ∷ b) after = sees b after
  sees (Note ∷ b) after = sees_after b after
  sees (Collection ∷ b) after = sees b after
  sees (Summary ∷ b) after = sees b after
  sees (Blank ∷ b) after = sees b after

  sees_after : (before after : Word) → seen 1 (before ++ (Note ∷ (Note ∷ after))) ≡ true
  sees_after [] after = stays after
  sees_after (Heading ∷ b) after = sees b after
  sees_after (Item ∷ b) after = sees b after
  sees_after (RateOnly ∷ b) after = sees b after
  sees_after (ProvisionalSum ∷ b) after = sees b after
  sees_after (Note ∷ b) after = stays (b ++ (Note ∷ (Note ∷ after)))
  sees_after (Collection ∷ b) after = sees b after
  sees_after (Summary ∷ b) after = sees b after
  sees_after (Blank ∷ b) after = sees b after

pub adjoining_said : (w : Word) → ends_lit adjoining_data w ↔ Adjoining w
adjoining_said w = (met w, λ a. ap (seen 0) a.parts ∙ sees a.before a.after)
