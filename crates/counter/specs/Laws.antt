-- A counter is a monoid, in order always.
use Rattle.std.specs.Prelude.{◌≡◌, ℕ, zero, suc, ◌+◌, ◌%◌, ◌<◌, ◌≤◌, false, Some, None, Option, nat_lt, slice_index, refl}
use Rattle.std.proofs.Common.{sym, ap, ◌∙◌, mod-lt, mod-eq_of_lt, add_assoc, arith}
use Rattle.std.proofs.Math.Nat.{mod-add-mod, add-mod-mod}
use Rattle.std.proofs.lemmas.Bool.{lt-ltb, ltb-true}
use Rattle.rows.specs.Places.{place}
use Rattle.rows.proofs.Places.{place_below}
use Rattle.monoid.specs.Laws.{Shaped, Lawful}
use Rattle.checks.proofs.Below.{all_at}
use Rattle.counter.specs.declared.counter.Counter.{Counter}
use Rattle.counter.specs.Meanings.{counter_meaning, lit_at}

unlit : (residue : Option ℕ) (x j : ℕ) → 1 ≤ j → lit_at residue x j ≡ false
unlit None x j h = refl
unlit (Some y) x zero h = absurd (omega arith)
unlit (Some y) x (suc j) h = refl

pub counter_shaped : (c : Counter) → Shaped (counter_meaning c)
counter_shaped c = record { some_width = omega arith; few_lamps = omega arith; no_more = λ x j h. unlit c.residue x j h }

pub counter_lawful : (c : Counter) → Lawful (counter_meaning c)
counter_lawful c =
    let m = c.modulus in
    let some : 0 < m = c.some in
    record {
      sound_unit = lt-ltb 0 m some;
      sound_image = λ k. all_at 8 (λ p. nat_lt (slice_index c.weights p) m) (place k) c.below (place_below k);
      sound_mul = λ x y p q. lt-ltb ((x + y) % m) m (mod-lt (x + y) some);
      left = λ x p. let h : x < m = ltb-true x m p in let e : 0 + x ≡ x = omega arith in ap (λ n. n % m) e ∙ mod-eq_of_lt h;
      right = λ x p. let h : x < m = ltb-true x m p in let e : x + 0 ≡ x = omega arith in ap (λ n. n % m) e ∙ mod-eq_of_lt h;
      assoc = λ x y z p q r. mod-add-mod (x + y) m z ∙ ap (λ n. n % m) (add_assoc x y z) ∙ sym (add-mod-mod x (y + z) m);
    }
