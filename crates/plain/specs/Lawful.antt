-- What holds of the sheets of every book: distinct tags from 1 to 9,999, and rows within the capacity.
use Rattle.std.specs.Prelude.{ℕ, Bool, true, not, ◌&&◌, List, [], ◌∷◌, nat_le}
use Rattle.plain.specs.Sheets.{Sheet, named, total}
use Rattle.plain.specs.Questions.{is_tag}

abbrev pub tagged : {X : Type 0} → List (Sheet X) → Bool
tagged [] = true
tagged (s ∷ ss) = is_tag s.tag && (not (named s.tag ss) && tagged ss)

abbrev pub lawful : ℕ → List (Sheet ℕ) → Bool
lawful capacity ss = tagged ss && nat_le (total ss) capacity
