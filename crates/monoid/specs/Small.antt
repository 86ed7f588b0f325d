-- Recognisers of at most eight elements, by the indexes of these.
use Rattle.std.specs.Prelude.{◌≡◌, ℕ, ◌<◌, ◌≤◌, true, nat_lt}
use Rattle.rows.specs.declared.kind.Kind.{Kind}
use Rattle.monoid.specs.Meaning.{Meaning}
use Rattle.monoid.specs.Words.{language, Recognises}
use Rattle.monoid.specs.Laws.{Shaped, Lawful}

pub record Small (E : Type 0) : Type 0 where
  pub order : ℕ
  pub index : E → ℕ
  pub element : ℕ → E

pub record Sized {E : Type 0} (n : Small E) : Type 0 where
  pub some : 1 ≤ n.order
  pub few : n.order ≤ 8

-- sound elements and the indexes below the order undo each other
pub record Undone {E : Type 0} (m : Meaning E) (n : Small E) : Type 0 where
  pub index_below : (x : E) → m.sound x ≡ true → n.index x < n.order
  pub element_sound : (i : ℕ) → i < n.order → m.sound (n.element i) ≡ true
  pub there : (x : E) → m.sound x ≡ true → n.element (n.index x) ≡ x
  pub back : (i : ℕ) → i < n.order → n.index (n.element i) ≡ i

-- the product of two indexes: the index of the product of their elements
abbrev pub index_of_product : {E : Type 0} → Meaning E → Small E → ℕ → ℕ → ℕ
index_of_product m n i j = n.index (m.mul (n.element i) (n.element j))

-- the same monoid on the indexes: unit, products, images and lamps are carried across
abbrev pub on_indexes : {E : Type 0} → Meaning E → Small E → Meaning ℕ
on_indexes m n = record {
  sound = λ i. nat_lt i n.order;
  unit = n.index m.unit;
  mul = index_of_product m n;
  image = λ k. n.index (m.image k);
  width = m.width;
  lit = λ i j. m.lit (n.element i) j;
}

-- f takes the sound elements of m to those of n, and keeps all that m means of them
pub record Homomorphism {E F : Type 0} (m : Meaning E) (n : Meaning F) (f : E → F) : Type 0 where
  pub sound : (x : E) → m.sound x ≡ true → n.sound (f x) ≡ true
  pub unit : f m.unit ≡ n.unit
  pub mul : (x y : E) → m.sound x ≡ true → m.sound y ≡ true → f (m.mul x y) ≡ n.mul (f x) (f y)
  pub image : (k : Kind) → f (m.image k) ≡ n.image k
  pub width : m.width ≡ n.width
  pub lit : (x : E) → m.sound x ≡ true → (j : ℕ) → m.lit x j ≡ n.lit (f x) j

-- what is carried across: index and element are homomorphisms that undo each other, and the indexes have the shape, the laws and every language
pub record Carried {E : Type 0} (m : Meaning E) (n : Small E) : Type 0 where
  pub undone : Undone m n
  pub to_indexes : Homomorphism m (on_indexes m n) n.index
  pub to_elements : Homomorphism (on_indexes m n) m n.element
  pub shaped : Shaped (on_indexes m n)
  pub lawful : Lawful (on_indexes m n)
  pub languages : (j : ℕ) → Recognises (on_indexes m n) j (language m j)
