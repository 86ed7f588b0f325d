-- A recogniser that multiplies the other way round recognises the words read backwards.
use Rattle.std.proofs.Common.{◌≡◌, [], ◌∷◌, ◌++◌, reverse, sym, refl, ap, ◌∙◌, append_assoc, append-nil}
use mathlib.Core.List.{reverse-cons}
use Rattle.rows.specs.declared.kind.Kind.{Kind}
use Rattle.monoid.specs.Meaning.{Meaning}
use Rattle.monoid.specs.Words.{Word, run, image_of}
use Rattle.monoid.specs.Laws.{Lawful}
use Rattle.monoid.proofs.Words.{image_cons}
use Rattle.layers.specs.Reversed.{reversed_meaning, Backwards}

-- a row that is moved from one word to the front of another
moved : (k : Kind) (w before : Word) → reverse w ++ (k ∷ before) ≡ reverse (k ∷ w) ++ before
moved k w before = sym (append_assoc (reverse w) (k ∷ []) before) ∙ ap (λ l. l ++ before) (sym (reverse-cons k w))

-- the rows of a word, taken one by one, stand in front of those taken before
run_back : {E : Type 0} {m : Meaning E} → Lawful m → (before w : Word) → run (reversed_meaning m) (image_of m before) w ≡ image_of m (reverse w ++ before)
run_back laws before [] = refl
run_back {E} {m} laws before (k ∷ w) =
    ap (λ x. run (reversed_meaning m) x w) (sym (image_cons laws k before)) ∙ run_back laws (k ∷ before) w ∙ ap (image_of m) (moved k w before)

pub image_back : {E : Type 0} {m : Meaning E} → Lawful m → (w : Word) → image_of (reversed_meaning m) w ≡ image_of m (reverse w)
image_back {E} {m} laws w = run_back laws [] w ∙ ap (image_of m) (append-nil (reverse w))

pub backwards : {E : Type 0} {m : Meaning E} → Lawful m → Backwards (reversed_meaning m) m
backwards {E} {m} laws = record {
  wide = refl;
  lamps = λ j. record {
    only = λ w p. sym (ap (λ x. m.lit x j) (image_back laws w)) ∙ p;
    every = λ w p. ap (λ x. m.lit x j) (image_back laws w) ∙ p;
  };
}
