-- The lamps of an element, all of them together.
use Rattle.std.specs.Prelude.{◌≡◌, ℕ, Bool, true, false, ◌&&◌, map, replicate, nat_lt, slice_index_or}
use Rattle.std.specs.List.{range_with_len}
use Rattle.monoid.specs.declared.lamps.Lamps.{Lamps}
use Rattle.monoid.specs.Meaning.{Meaning}
use Rattle.monoid.specs.Words.{Word, language}

-- no lamps at all
abbrev pub no_lamps : Lamps
no_lamps = record { lit = replicate 16 false; width = 0 }

-- whether a lamp is among them and lit
abbrev pub lights : Lamps → ℕ → Bool
lights lamps j = nat_lt j 16 && slice_index_or lamps.lit j false

abbrev pub lamps_of : {E : Type 0} → Meaning E → E → Lamps
lamps_of m x = record { lit = map (m.lit x) (range_with_len 0 16); width = m.width }

-- the lamps that are lit are exactly those whose language holds the word
pub record Verdicts {E : Type 0} (m : Meaning E) (w : Word) (lamps : Lamps) : Type 0 where
  pub only : (j : ℕ) → lights lamps j ≡ true → language m j w
  pub every : (j : ℕ) → language m j w → lights lamps j ≡ true
