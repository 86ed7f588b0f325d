-- A walk down, move by move.
use Rattle.std.proofs.Common.{◌≡◌, ℕ, ◌+◌, Some, None, Option, sym, refl, ap, ◌∙◌, add-one}
use Rattle.cells.specs.Descents.{Move, on, ends, needs, answer, walk}

pub needs_some : {X S A : Type 0} (o : Option X) (x : X) (f : X → Move S A) → Some x ≡ o → needs o f ≡ f x
needs_some o x f e = ap (λ v. needs v f) (sym e)

pub needs_none : {X S A : Type 0} (o : Option X) (f : X → Move S A) → None ≡ o → needs o f ≡ ends None
needs_none o f e = ap (λ v. needs v f) (sym e)

module _ {S A : Type 0} (move : S → Move S A) where
  pub walk-none : (s : S) → walk move 0 s ≡ None
  unfolding walk
  walk-none s = refl

  pub walk-more : (n : ℕ) (s : S) → walk move (n + 1) s ≡ answer (walk move n) (move s)
  unfolding walk
  walk-more n s = ap (λ m. walk move m s) (add-one n)

  -- a walk from a start that has come to s, with so many moves left
  module _ (most : ℕ) (start : S) where
    abbrev pub Come : ℕ → S → Type 0
    Come left s = walk move most start ≡ walk move left s

    module _ (left left' : ℕ) (s : S) (more : left' + 1 ≡ left) (come : Come left s) where
      turn : walk move most start ≡ answer (walk move left') (move s)
      turn = come ∙ ap (λ m. walk move m s) (sym more) ∙ walk-more left' s

      pub come_on : (s' : S) → move s ≡ on s' → Come left' s'
      come_on s' e = turn ∙ ap (answer (walk move left')) e

      pub come_end : (out : Option A) → move s ≡ ends out → out ≡ walk move most start
      come_end out e = sym (turn ∙ ap (answer (walk move left')) e)

    pub come_deep : (left : ℕ) (s : S) → left ≡ 0 → Come left s → None ≡ walk move most start
    come_deep left s e come = sym (come ∙ ap (λ m. walk move m s) e ∙ walk-none s)
