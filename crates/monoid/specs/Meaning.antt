-- What a recogniser means: a monoid with an image for each kind of row and lamps for each element.
use Rattle.std.specs.Prelude.{ℕ, Bool}
use Rattle.rows.specs.declared.kind.Kind.{Kind}

pub record Meaning (E : Type 0) : Type 0 where
  -- which values are elements of the monoid
  pub sound : E → Bool
  pub unit : E
  pub mul : E → E → E
  pub image : Kind → E
  -- how many lamps it has
  pub width : ℕ
  -- whether an element lights a lamp, which are counted from 0
  pub lit : E → ℕ → Bool
