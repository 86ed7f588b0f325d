-- The bits of a number, and the number that has given bits.
use Rattle.std.specs.Prelude.{ℕ, zero, suc, ◌+◌, ◌*◌, ◌/◌, ◌%◌, ◌^◌, Bool, cond, ◌==◌}

unfoldable pub bit : ℕ → ℕ → Bool
bit n k = n / 2 ^ k % 2 == 1

-- the number of n bits, of which those are set that pass a test
unfoldable pub packed : ℕ → (ℕ → Bool) → ℕ
packed zero p = 0
packed (suc n) p = cond (p n) 1 0 * 2 ^ n + packed n p
