-- The lines of eight rows of eight bits: a row is a line of the first member of pairs, a column one of the second.
use Rattle.std.specs.Prelude.{◌≡◌, ℕ, ◌+◌, ◌*◌, ◌<◌, Bool, ◌&&◌, ◌==◌}
use Rattle.pairs.specs.declared.member.Member.{Member}
use Rattle.pairs.specs.declared.member.Member.TheVariants.{First, Second}
use Rattle.pairs.specs.Bits.{bit}

-- the bit of the pair with x as that member, and y as the other one
abbrev pub bit_by : Member → ℕ → ℕ → ℕ → Bool
bit_by First n x y = bit n (8 * x + y)
bit_by Second n x y = bit n (8 * y + x)

-- the bits of a line of n as those of another line, and no other bits
abbrev pub LineAs : Member → ℕ → ℕ → ℕ → ℕ → Type 0
LineAs member n from to line = (x y : ℕ) → x < 8 → y < 8 → bit_by member line x y ≡ (x == to && bit_by member n from y)
