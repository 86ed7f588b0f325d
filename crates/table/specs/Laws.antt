-- A table is a monoid of at most eight elements, in order always.
use Rattle.std.specs.Prelude.{◌≡◌, ℕ, ◌<◌, ◌≤◌, Bool, true, false, ◌&&◌, ◌==◌, nat_lt, refl}
use Rattle.std.proofs.Common.{sym, ap, ◌∙◌, ⊎_elim, arith}
use Rattle.std.proofs.lemmas.Bool.{lt-ltb, ltb-true, and_left, ne_eqb, cases_order}
use Rattle.rows.specs.Places.{place}
use Rattle.rows.proofs.Places.{place_below}
use Rattle.monoid.specs.Meaning.{Meaning}
use Rattle.monoid.specs.Laws.{Shaped, Lawful}
use Rattle.monoid.specs.Small.{Small, Sized, Undone}
use Rattle.checks.specs.Verdicts.{accepted}
use Rattle.table.specs.declared.data.TableData.{TableData}
use Rattle.table.specs.Tables.{times, image_in, lit_in}
use Rattle.table.specs.Checks.{verdict_of}
use Rattle.table.specs.Meanings.{table_of, small_of}
use Rattle.table.specs.Accepted.{good}

unlit : (j : ℕ) (b : Bool) → 1 ≤ j → (j == 0 && b) ≡ false
unlit j b h = and_left (j == 0) b (ne_eqb j 0 (λ q. omega arith))

pub table_shaped : (d : TableData) → Shaped (table_of d)
table_shaped d = record { some_width = omega arith; few_lamps = omega arith; no_more = λ x j h. unlit j (lit_in d x) h }

module _ (d : TableData) (checked : accepted (verdict_of d) ≡ true) where
  pub table_lawful : Lawful (table_of d)
  table_lawful =
      let n = d.size in
      let facts = good d checked in
      record {
        sound_unit = lt-ltb 0 n facts.some;
        sound_image = λ k. lt-ltb (image_in d k) n (facts.imaged (place k) (place_below k));
        sound_mul = λ x y p q. lt-ltb (times d x y) n (facts.closed x y (ltb-true x n p) (ltb-true y n q));
        left = λ x p. facts.left x (ltb-true x n p);
        right = λ x p. facts.right x (ltb-true x n p);
        assoc = λ x y z p q r. facts.assoc x y z (ltb-true x n p) (ltb-true y n q) (ltb-true z n r);
      }

  pub table_sized : Sized (small_of d)
  table_sized = let facts = good d checked in record { some = facts.some; few = facts.few }

pub table_undone : (d : TableData) → Undone (table_of d) (small_of d)
table_undone d = record {
  index_below = λ x p. ltb-true x d.size p;
  element_sound = λ i h. lt-ltb i d.size h;
  there = λ x p. refl;
  back = λ i h. refl;
}

-- the numbers below a bound tell it
same_bound : (m n : ℕ) → ((x : ℕ) → nat_lt x m ≡ nat_lt x n) → m ≡ n
same_bound m n same =
    ⊎_elim (λ q. q)
    (⊎_elim
    (λ h. let own : m < m = ltb-true m m (same m ∙ lt-ltb m n h) in absurd (omega arith))
    (λ h. let own : n < n = ltb-true n n (sym (same n) ∙ lt-ltb n m h) in absurd (omega arith)))
    (cases_order m n)

-- the sound elements tell the order
pub table_steady : (d e : TableData) → table_of d ≡ table_of e → small_of d ≡ small_of e
table_steady d e same = ap {B = Small ℕ} (λ n. record { order = n; index = λ x. x; element = λ i. i }) (same_bound d.size e.size (λ x. ap (λ (m : Meaning ℕ). m.sound x) same))
