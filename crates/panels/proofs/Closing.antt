-- The runs of *closed* from each of its states.
use Rattle.std.proofs.Common.{◌≡◌, true, false, ◌↔◌, [], ◌∷◌, sym, refl, ◌∙◌}
use Rattle.std.proofs.lemmas.Bool.{false≢true}
use Rattle.rows.specs.declared.kind.Kind.TheVariants.{Heading, Item, RateOnly, ProvisionalSum, Note, Collection, Summary, Blank}
use Rattle.monoid.specs.Words.{Word}
use Rattle.automaton.specs.States.{is_lit}
use Rattle.automaton.specs.Languages.{run_from, ends_lit}
use Rattle.panels.specs.Data.{closed_data}
use Rattle.panels.specs.Sayings.{Outside, Inside, outside_end, outside_note, outside_summary, outside_blank, opened, inside_item, inside_rate_only, inside_provisional, inside_note, inside-blank, closed}

-- a run that is broken stays so
broken : (w : Word) → is_lit closed_data (run_from closed_data 2 w) ≡ false
broken [] = refl
broken (Heading ∷ w) = broken w
broken (Item ∷ w) = broken w
broken (RateOnly ∷ w) = broken w
broken (ProvisionalSum ∷ w) = broken w
broken (Note ∷ w) = broken w
broken (Collection ∷ w) = broken w
broken (Summary ∷ w) = broken w
broken (Blank ∷ w) = broken w

unlit : {X : Type 0} (w : Word) → is_lit closed_data (run_from closed_data 2 w) ≡ true → X
unlit w h = absurd (false≢true (sym (broken w) ∙ h))

-- a run that ends lit reads the word as rows outside, or inside, headings
mutual
  outside_read : (w : Word) → is_lit closed_data (run_from closed_data 0 w) ≡ true → Outside w
  outside_read [] h = outside_end
  outside_read (Heading ∷ w) h = opened (inside_read w h)
  outside_read (Item ∷ w) h = unlit w h
  outside_read (RateOnly ∷ w) h = unlit w h
  outside_read (ProvisionalSum ∷ w) h = unlit w h
  outside_read (Note ∷ w) h = outside_note (outside_read w h)
  outside_read (Collection ∷ w) h = unlit w h
  outside_read (Summary ∷ w) h = outside_summary (outside_read w h)
  outside_read (Blank ∷ w) h = outside_blank (outside_read w h)

  inside_read : (w : Word) → is_lit closed_data (run_from closed_data 1 w) ≡ true → Inside w
  inside_read [] h = absurd (false≢true h)
  inside_read (Heading ∷ w) h = unlit w h
  inside_read (Item ∷ w) h = inside_item (inside_read w h)
  inside_read (RateOnly ∷ w) h = inside_rate_only (inside_read w h)
  inside_read (ProvisionalSum ∷ w) h = inside_provisional (inside_read w h)
  inside_read (Note ∷ w) h = inside_note (inside_read w h)
  inside_read (Collection ∷ w) h = closed (outside_read w h)
  inside_read (Summary ∷ w) h = unlit w h
  inside_read (Blank ∷ w) h = inside-blank (inside_read w h)

-- and every such word is so read
mutual
  outside_ends : {w : Word} → Outside w → is_lit closed_data (run_from closed_data 0 w) ≡ true
  outside_ends outside_end = refl
  outside_ends (outside_note o) = outside_ends o
  outside_ends (outside_summary o) = outside_ends o
  outside_ends (outside_blank o) = outside_ends o
  outside_ends (opened i) = inside_ends i

  inside_ends : {w : Word} → Inside w → is_lit closed_data (run_from closed_data 1 w) ≡ true
  inside_ends (inside_item i) = inside_ends i
  inside_ends (inside_rate_only i) = inside_ends i
  inside_ends (inside_provisional i) = inside_ends i
  inside_ends (inside_note i) = inside_ends i
  inside_ends (inside-blank i) = inside_ends i
  inside_ends (closed o) = outside_ends o

pub closed_said : (w : Word) → ends_lit closed_data w ↔ Outside w
closed_said w = (outside_read w, λ o. outside_ends o)
