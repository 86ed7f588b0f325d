-- What lamp 0 of the pile says, from what each of its layers says of those below it.
use Rattle.std.proofs.Common.{◌≡◌, ℕ, zero, suc, ◌<◌, true, reverse, refl, subst, arith}
use Rattle.monoid.specs.Meaning.{Meaning}
use Rattle.monoid.specs.Words.{Word, language, Recognises}
use Rattle.checks.specs.Verdicts.{accepted}
use Rattle.checks.specs.Below.{all_below}
use Rattle.table.specs.Checks.{verdict_of}
use Rattle.memo.specs.Memo.{Alike}
use Rattle.layers.specs.Reversed.{Backwards}
use Rattle.layers.specs.All.{Intersects}
use Rattle.layers.specs.Not.{Complements}
use Rattle.layers_tests.specs.Deep.{begun_data}

pub begun_passes : accepted (verdict_of begun_data) ≡ true
unfolding all_below
begun_passes = refl

-- a lamp of the words of the first language read backwards
pub turned : {E : Type 0} (t u v : Meaning E) (L : Word → Type 0) → Recognises t 0 L → Alike u t → Backwards v u → Recognises v 0 (λ w. L (reverse w))
turned t u v L says alike back = record {
  only = λ w h. says.only (reverse w) ((alike.lamps 0).only (reverse w) ((back.lamps 0).only w h));
  every = λ w h. (back.lamps 0).every w ((alike.lamps 0).every (reverse w) (says.every (reverse w) h));
}

-- all lamps of two, where the word is in both languages
lamps_of_two : {E : Type 0} (both : Meaning E) (L M : Word → Type 0) → Recognises both 0 L → Recognises both 1 M → (w : Word) → L w → M w → (j : ℕ) → j < 2 → language both j w
lamps_of_two both L M left right w l m zero below = left.every w l
lamps_of_two both L M left right w l m (suc zero) below = right.every w m
lamps_of_two both L M left right w l m (suc (suc j)) below = absurd (omega arith)

-- a lamp with the language of another recognises what that one does
pub passed_on : {E F : Type 0} (m : Meaning E) (j : ℕ) (n : Meaning F) (L : Word → Type 0) → Recognises m j (language n 0) → Recognises n 0 L → Recognises m j L
passed_on m j n L r s = record { only = λ w h. s.only w (r.only w h); every = λ w h. r.every w (s.every w h) }

-- two lamps, all of them, turned over
pub not_both_lem : {E F G : Type 0} (both : Meaning E) (all : Meaning F) (top : Meaning G) (L M : Word → Type 0) → both.width ≡ 2 → all.width ≡ 1 → Recognises both 0 L → Recognises both 1 M → Intersects all both → Complements top all → Recognises top 0 (λ w. L w × M w → ⊥)
not_both_lem both all top L M two one left right inter over =
    let turned_over = over.lamps 0 (omega arith) in
    record {
      only = λ w h here. turned_over.only w h (inter.lamp.every w (λ j below. lamps_of_two both L M left right w here.0 here.1 j (subst (λ (n : ℕ). j < n) two below)));
      every = λ w none. turned_over.every w (λ h. none (left.only w (inter.lamp.only w h 0 (omega arith)), right.only w (inter.lamp.only w h 1 (omega arith))));
    }
