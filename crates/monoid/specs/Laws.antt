-- The laws of a recogniser: its shape always, and the laws of a monoid where it is in order.
use Rattle.std.specs.Prelude.{◌≡◌, ℕ, ◌≤◌, true, false}
use Rattle.rows.specs.declared.kind.Kind.{Kind}
use Rattle.monoid.specs.Meaning.{Meaning}

-- a width from 1 to 16, and no lamp at or past it
pub record Shaped {E : Type 0} (m : Meaning E) : Type 0 where
  pub some_width : 1 ≤ m.width
  pub few_lamps : m.width ≤ 16
  pub no_more : (x : E) (j : ℕ) → m.width ≤ j → m.lit x j ≡ false

-- the sound elements are closed, and are a monoid
pub record Lawful {E : Type 0} (m : Meaning E) : Type 0 where
  pub sound_unit : m.sound m.unit ≡ true
  pub sound_image : (k : Kind) → m.sound (m.image k) ≡ true
  pub sound_mul : (x y : E) → m.sound x ≡ true → m.sound y ≡ true → m.sound (m.mul x y) ≡ true
  pub left : (x : E) → m.sound x ≡ true → m.mul m.unit x ≡ x
  pub right : (x : E) → m.sound x ≡ true → m.mul x m.unit ≡ x
  pub assoc : (x y z : E) → m.sound x ≡ true → m.sound y ≡ true → m.sound z ≡ true → m.mul (m.mul x y) z ≡ m.mul x (m.mul y z)
