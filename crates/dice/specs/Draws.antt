-- What a generator draws: the next state, and a number below a bound from its upper half.
use Rattle.std.specs.Prelude.{ℕ, zero, suc, ◌+◌, ◌*◌, ◌/◌, ◌%◌, ◌^◌}

abbrev pub after : ℕ → ℕ
after state = (state * 1664525 + 1013904223) % 2 ^ 32

-- the remainder of the upper half; 0 where there is no bound
abbrev pub remainder : ℕ → ℕ → ℕ
remainder zero high = 0
remainder (suc b) high = high % suc b

abbrev pub drawn : ℕ → ℕ → ℕ
drawn bound state = remainder bound (after state / 2 ^ 16)
