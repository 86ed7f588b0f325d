-- The lamps of an element, lamp by lamp.
use Rattle.std.proofs.Common.{◌≡◌, ℕ, true, false, ◌&&◌, ltb, get_or, sym, ap, ◌∙◌, subst, ⊎_elim, arith}
use Rattle.std.proofs.lemmas.List.FromFn.{get_or-map-range_with_len}
use Rattle.std.proofs.lemmas.Bool.{cases_lt, lt-ltb, le-ltb, and_left}
use Rattle.monoid.specs.declared.lamps.Lamps.{Lamps}
use Rattle.monoid.specs.Meaning.{Meaning}
use Rattle.monoid.specs.Words.{Word, image_of}
use Rattle.monoid.specs.Laws.{Shaped, Lawful}
use Rattle.monoid.specs.Lamps.{lights, lamps_of, Verdicts}
use Rattle.monoid.proofs.Words.{image_sound}

-- a lamp is lit among the lamps of an element exactly where the element lights it
pub lights_of : {E : Type 0} {m : Meaning E} → Shaped m → (x : E) (j : ℕ) → lights (lamps_of m x) j ≡ m.lit x j
lights_of {E} {m} shape x j =
    ⊎_elim
    (λ h. ap (λ b. b && get_or (lamps_of m x).lit j false) (lt-ltb j 16 h) ∙ get_or-map-range_with_len (m.lit x) 0 16 j j false h (omega arith))
    (λ h. and_left (ltb j 16) (get_or (lamps_of m x).lit j false) (le-ltb j 16 h) ∙ sym (shape.no_more x j (omega (arith, shape.few_lamps))))
    (cases_lt j 16)

pub verdicts_of : {E : Type 0} {m : Meaning E} → Shaped m → (w : Word) (lamps : Lamps) → lamps ≡ lamps_of m (image_of m w) → Verdicts m w lamps
verdicts_of {E} {m} shape w lamps is =
    let same : (j : ℕ) → lights lamps j ≡ m.lit (image_of m w) j = λ j. ap (λ l. lights l j) is ∙ lights_of shape (image_of m w) j in
    record { only = λ j h. sym (same j) ∙ h; every = λ j h. same j ∙ h }

-- the lamps asked of a recogniser that means m by now, at the image of a word
pub lamps_told : {E : Type 0} {m n : Meaning E} → Lawful m → n ≡ m → (w : Word) (x : E) (r : Lamps) → x ≡ image_of m w → (n.sound x ≡ true → r ≡ lamps_of n x) → r ≡ lamps_of m (image_of m w)
lamps_told {E} {m} {n} laws e w x r x_is told =
    let x_sound : m.sound x ≡ true = ap m.sound x_is ∙ image_sound laws w in
    subst (λ (v : Meaning E). v.sound x ≡ true → r ≡ lamps_of v x) e told x_sound ∙ ap (lamps_of m) x_is
