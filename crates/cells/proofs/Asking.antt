-- What is asked of a recogniser in one step after another.
use Rattle.std.proofs.Common.{◌≡◌, ℕ, ◌+◌, ◌≤◌, refl, ◌∙◌, arith}
use Rattle.monoid.specs.Meaning.{Meaning}
use Rattle.cells.specs.declared.mode.Mode.{Mode}
use Rattle.cells.specs.declared.mode.Mode.TheVariants.{Asking, Quiet}
use Rattle.cells.specs.Asking.{Due, cost, Asks}

-- what is owed stays owed while the recogniser stays in order
pub due_kept : (mode : Mode) {A B : Type 0} → (A → B) → Due mode A → Due mode B
due_kept Asking f d = f d
due_kept Quiet f d = d

pub due_order : (mode : Mode) {A : Type 0} → Due mode A → A
due_order Asking d = d
due_order Quiet d = absurd d

pub cost_more : (mode : Mode) (a b : ℕ) → a ≤ b → cost mode a ≤ cost mode b
cost_more Asking a b h = h
cost_more Quiet a b h = omega arith

pub cost-sum : (mode : Mode) (a b : ℕ) → cost mode a + cost mode b ≡ cost mode (a + b)
cost-sum Asking a b = refl
cost-sum Quiet a b = omega arith

module _ {S E : Type 0} {meaning : S → Meaning E} {orderly : S → Type 0} {tally : S → ℕ} where
  pub asks_none : (most : ℕ) (s : S) → Asks meaning orderly tally most s s
  asks_none most s = record { same = refl; order = λ h. h; counted = (0, omega arith, omega arith) }

  pub asks_then : (a b : ℕ) (s t u : S) → Asks meaning orderly tally a s t → Asks meaning orderly tally b t u → Asks meaning orderly tally (a + b) s u
  asks_then a b s t u p q =
      let n = p.counted in
      let k = q.counted in
      record { same = q.same ∙ p.same; order = λ h. q.order (p.order h); counted = (n.0 + k.0, omega arith, omega arith) }

  pub asks_more : (a b : ℕ) (s t : S) → a ≤ b → Asks meaning orderly tally a s t → Asks meaning orderly tally b s t
  asks_more a b s t h p = let n = p.counted in record { same = p.same; order = p.order; counted = (n.0, omega arith, n.2) }

  -- at the cost of a mode
  pub costs_then : (mode : Mode) (a b c : ℕ) (s t u : S) → a + b ≤ c → Asks meaning orderly tally (cost mode a) s t → Asks meaning orderly tally (cost mode b) t u → Asks meaning orderly tally (cost mode c) s u
  costs_then mode a b c s t u h p q =
      let e = cost-sum mode a b in
      let more = cost_more mode (a + b) c h in
      asks_more (cost mode a + cost mode b) (cost mode c) s u (omega arith) (asks_then (cost mode a) (cost mode b) s t u p q)

  pub costs_more : (mode : Mode) (a b : ℕ) (s t : S) → a ≤ b → Asks meaning orderly tally (cost mode a) s t → Asks meaning orderly tally (cost mode b) s t
  costs_more mode a b s t h p = asks_more (cost mode a) (cost mode b) s t (cost_more mode a b h) p
