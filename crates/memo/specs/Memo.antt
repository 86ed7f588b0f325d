-- What a memo keeps: true products only, and each that was asked for.
use Rattle.std.specs.Prelude.{◌≡◌, ℕ, ◌+◌, ◌%◌, ◌^◌, ◌<◌, ◌⊎◌, true, cond, is_some, Some, ◌≢◌}
use Rattle.monoid.specs.Meaning.{Meaning}
use Rattle.monoid.specs.Words.{language, Recognises}
use Rattle.monoid.specs.Asking.{exactly}
use Rattle.monoid.specs.Small.{Small, on_indexes}
use Rattle.memo.specs.declared.products.Products.{Products}
use Rattle.memo.specs.Products.{found}

-- every kept product is that of two indexes below the order, and is true
pub record Kept {E : Type 0} (m : Meaning E) (n : Small E) (p : Products) : Type 0 where
  pub left_below : (i j k : ℕ) → found p i j ≡ Some k → i < n.order
  pub right_below : (i j k : ℕ) → found p i j ≡ Some k → j < n.order
  pub truth : (i j k : ℕ) → found p i j ≡ Some k → k ≡ (on_indexes m n).mul i j

-- where what is kept is true, k is the product of i and j
abbrev pub Product : {E : Type 0} → Meaning E → Small E → Products → ℕ → ℕ → ℕ → Type 0
Product m n p i j k = Kept m n p → i < n.order → j < n.order → k ≡ (on_indexes m n).mul i j

-- the product of i and j, if they are indexes of elements, is kept
abbrev pub Held : {E : Type 0} → Small E → Products → ℕ → ℕ → Type 0
Held n p i j = i < n.order → j < n.order → is_some (found p i j) ≡ true

-- what a question for the product of i and j does to the kept products and, from t to u, to the tally below
pub record Once (i j : ℕ) (before after : Products) (t u : ℕ) : Type 0 where
  -- the recogniser below is asked only where the product was not kept
  pub once : u ≡ cond (is_some (found before i j)) t ((t + 1) % 2 ^ 64)
  -- nothing kept is lost or changed, and nothing else is added
  pub lasting : (a b k : ℕ) → found before a b ≡ Some k → found after a b ≡ Some k
  pub others : (a b : ℕ) → (a ≡ i → b ≢ j) → found after a b ≡ found before a b

-- at the most one product, modulo 2^64, between two tallies
abbrev pub at_most_one : ℕ → ℕ → Type 0
at_most_one before after = (after ≡ before) ⊎ exactly 1 before after

-- lamp by lamp, n recognises what m does
pub record Alike {E F : Type 0} (n : Meaning F) (m : Meaning E) : Type 0 where
  pub wide : n.width ≡ m.width
  pub lamps : (j : ℕ) → Recognises n j (language m j)
