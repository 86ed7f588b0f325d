-- The records of the sheets that stand, and that their rows fit the capacity.
use Rattle.std.proofs.Common.{◌≡◌, ℕ, ◌<◌, ◌≤◌, leb, List, get_or, length, sum_by, refl, arith, ap, length-take, get_or-take}
use Rattle.std.proofs.lemmas.Bool.{and_parts, leb-true}
use Rattle.std.proofs.lemmas.List.Sums.{get_or-le-sum_by}
use Rattle.std.proofs.lemmas.List.Recursion.{is_sum_by}
use Rattle.plain.specs.Sheets.{total}
use Rattle.plain.specs.Lawful.{tagged}
use Rattle.records.specs.declared.record.Record.{Record}
use Rattle.records.specs.declared.records.Records.{Records}
use Rattle.records.specs.Entries.{entries, blank}
use Rattle.records.specs.Views.{standing, outline_of}

pub total_is : (rs : List Record) → total (entries rs) ≡ sum_by (λ (r : Record). r.rows) rs
total_is rs = is_sum_by (λ l. total (entries l)) (λ (r : Record). r.rows) refl (λ r l. refl) rs

module _ (b : Records) where
  pub standing-length : length (standing b) ≡ b.live
  standing-length = let few = b.few in let eight = b.eight in simp length-take (omega arith)

  pub standing_at : (i : ℕ) → i < b.live → get_or (standing b) i blank ≡ get_or b.records i blank
  standing_at i h = get_or-take b.live b.records i blank h

  pub total-within : total (outline_of b) ≤ b.capacity
  total-within = leb-true (total (outline_of b)) b.capacity (and_parts (tagged (outline_of b)) (leb (total (outline_of b)) b.capacity) b.ok).1

  pub sum_within : sum_by (λ (r : Record). r.rows) (standing b) ≤ 4096
  sum_within = let is = total_is (standing b) in let most = b.most in omega (arith, total-within)

  -- a sheet has no more rows than the book has cells
  pub rows-within : (i : ℕ) → i < b.live → (get_or b.records i blank).rows ≤ b.capacity
  rows-within i h =
      let long = standing-length in
      let at = get_or-le-sum_by (λ (r : Record). r.rows) (standing b) i blank (omega arith) in
      let same : (get_or (standing b) i blank).rows ≡ (get_or b.records i blank).rows = ap (λ (r : Record). r.rows) (standing_at i h) in
      let is = total_is (standing b) in
      let all = total-within in
      omega arith
