-- How many products were asked for between two tallies.
use Rattle.std.specs.Prelude.{◌≡◌, ℕ, ◌+◌, ◌%◌, ◌^◌, ◌≤◌}

-- the tally has risen by n, modulo 2^64
abbrev pub Asked : ℕ → ℕ → ℕ → Type 0
Asked n before after = after % 2 ^ 64 ≡ (before + n) % 2 ^ 64

-- it has risen by at most so many
abbrev pub Spent : ℕ → ℕ → ℕ → Type 0
Spent most before after = (n : ℕ) × (n ≤ most) × Asked n before after
