-- The number that 1 to 5 decimal digits write.
use Rattle.std.specs.Prelude.{ℕ, ◌+◌, ◌-◌, ◌*◌, Bool, cond, ◌&&◌, [], ◌∷◌, length, Some, None, Option, nat_le}
use Rattle.script.specs.Parts.{Bytes}

-- 0 to 9, by their codes
abbrev pub is_digit : ℕ → Bool
is_digit b = nat_le 48 b && nat_le b 57

-- the number that the digits write on after n; none if some byte is no digit
abbrev pub read_on : ℕ → Bytes → Option ℕ
read_on n [] = Some n
read_on n (b ∷ bs) = cond (is_digit b) (read_on (10 * n + (b - 48)) bs) None

abbrev pub is_numeral_length : ℕ → Bool
is_numeral_length n = nat_le 1 n && nat_le n 5

abbrev pub number_of : Bytes → Option ℕ
number_of bytes = cond (is_numeral_length (length bytes)) (read_on 0 bytes) None
