-- What an edit asks of a recogniser: how many products, and where their truth is owed.
use Rattle.std.specs.Prelude.{ℕ}
use Rattle.monoid.specs.Asking.{AskedFor}
use Rattle.monoid.specs.Meaning.{Meaning}
use Rattle.cells.specs.declared.mode.Mode.{Mode}
use Rattle.cells.specs.declared.mode.Mode.TheVariants.{Asking, Quiet}
use Rattle.cells.specs.Counts.{Spent}

-- the products that an edit writes are owed to be true where it asks for them and the recogniser is in order
abbrev pub Due : Mode → Type 0 → Type 0
Due Asking order = order
Due Quiet order = ⊥

-- the products that an edit asks for, out of so many
abbrev pub cost : Mode → ℕ → ℕ
cost Asking n = n
cost Quiet n = 0

-- a recogniser was asked for so many products at the most, and for nothing else that changes it
abbrev pub Asks : {S E : Type 0} → (S → Meaning E) → (S → Type 0) → (S → ℕ) → ℕ → S → S → Type 0
Asks meaning orderly tally most before after = AskedFor meaning orderly tally (Spent most) before after
