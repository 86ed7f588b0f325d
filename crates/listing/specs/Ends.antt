-- What the three numbers of a run mean: which ending it has, by the lines of the script and the bytes that were free
-- before each of them.
use Rattle.std.specs.Prelude.{◌≡◌, ℕ, ◌-◌, ◌<◌, ◌≤◌, ◌↔◌, Bool, List, length, take}
use Rattle.std.specs.List.{flat_map}
use Rattle.monoid.specs.Words.{Word}
use Rattle.script.specs.Lines.{lines}
use Rattle.script.specs.Parts.{Bytes}
use Rattle.listing.specs.Answers.{ended}
use Rattle.listing.specs.Listings.{answers_to}

module _ (lamps : Word → List Bool) (capacity : ℕ) where
  -- the bytes of the answers to the first k lines
  abbrev pub taken : Bytes → ℕ → ℕ
  taken script k = length (flat_map ended (take k (answers_to lamps capacity script)))

  -- those that are free before line k, from 0
  abbrev pub free_before : ℕ → Bytes → ℕ → ℕ
  free_before room script k = room - taken script k

pub record Ends (lamps : Word → List Bool) (capacity room : ℕ) (script : Bytes) (answer : ℕ × ℕ × ℕ) : Type 0 where
  -- 38: the script has more than 16,384 bytes, and no line was worked
  pub too_long : (answer.0 ≡ 38) ↔ (16384 < length script)
  pub unworked : answer.0 ≡ 38 → answer.1 ≡ 0
  -- 37: some line is unworked, and before it fewer than 96 bytes were free
  pub full : (answer.0 ≡ 37) ↔ ((length script ≤ 16384) × (answer.1 < length (lines script)))
  pub no_room : answer.0 ≡ 37 → free_before lamps capacity room script answer.1 < 96
  -- 0: every line was worked
  pub complete : (answer.0 ≡ 0) ↔ ((length script ≤ 16384) × (answer.1 ≡ length (lines script)))
  -- no more lines were worked than there are, and before each of them 96 bytes were free
  pub within : answer.1 ≤ length (lines script)
  pub had_room : (k : ℕ) → k < answer.1 → 96 ≤ free_before lamps capacity room script k
  -- the bytes written are those of the lines worked
  pub written : answer.2 ≡ taken lamps capacity script answer.1
