-- What the walks over the cells of a sound book find for a question.
use Rattle.std.proofs.Common.{◌≡◌, ℕ, ◌+◌, ◌-◌, ◌%◌, ◌^◌, ◌<◌, min, max, Bool, true, List, [], length, take, drop, Some, None, Option, sym, refl, ap, ◌∙◌, subst, ap₂, arith}
use Rattle.monoid.specs.Meaning.{Meaning}
use Rattle.monoid.specs.Words.{image_of}
use Rattle.plain.specs.declared.state.State.TheVariants.{Settled}
use Rattle.plain.specs.declared.call.Call.TheVariants.{Whole, Range}
use Rattle.plain.specs.Sheets.{rows_of}
use Rattle.records.specs.declared.records.Records.{Records}
use Rattle.records.specs.Changes.{sheets_of}
use Rattle.cells.specs.declared.cell.Cell.{Cell}
use Rattle.cells.specs.Trees.{Tree, leaf, size, rows}
use Rattle.cells.specs.Rooted.{Rooted}
use Rattle.cells.proofs.Frame.{rows_long}
use Rattle.heights.specs.Heights.{highest}
use Rattle.heights.proofs.Highest.{bounded}
use Rattle.ranges.specs.Parts.{Never}
use Rattle.ranges.specs.Ranges.{part, Ranges, RangeCosts, Wholes, NoTree}
use Rattle.changes.specs.declared.change.Part.{Part}
use Rattle.records.specs.Views.{refusal_by}
use Rattle.calls.specs.Models.{Model, plain_of}
use Rattle.calls.specs.Sound.{own, Sound}
use Rattle.calls.proofs.Enough.{enough}
use Rattle.calls.proofs.Finding.{rows-map, found, rooted-found, whole_true, range_true, range_within}
use Rattle.calls.proofs.Showing.{Finds}

-- a rise of fewer than 2^64 products is told exactly
rise_exact : (told tells n k : ℕ) → tells < 2 ^ 64 → n < 2 ^ 64 → k < 2 ^ 64 → tells ≡ (told + n) % 2 ^ 64 → tells % 2 ^ 64 ≡ (told + k) % 2 ^ 64 → n ≡ k
rise_exact told tells n k fits few fewer risen asked = omega arith

-- the rows of a sheet of the plain book are those of its tree
word_is : {E : Type 0} (tag : ℕ) (before : Model E) → rows_of [] tag (plain_of before) ≡ rows (rows_of leaf tag before)
word_is tag before = rows-map rows leaf tag before

module _ {E : Type 0} {lawful : Bool} {m : Meaning E} {b : Records} {x : List (Cell E)} {before : Model E} (sound : Sound lawful m b x before) (within : ℕ) (lent : within ≡ min b.capacity (length x)) where
  -- on a sound book the cells that are lent are those within the capacity
  pub lent_own : take within x ≡ own b x
  lent_own = let many = enough sound in let same : within ≡ b.capacity = omega arith in ap (λ k. take k x) same

  module _ (tag : ℕ) (root : Option ℕ) (root_is : root ≡ (rows_of (0, None) tag (sheets_of b)).1) where
    abbrev tree : Tree E
    tree = rows_of leaf tag before

    rooted_lent : Rooted (take within x) root tree
    rooted_lent = subst (λ (cells : List (Cell E)). Rooted cells root tree) (sym lent_own) (rooted-found sound tag root root_is)

    module _ (Orderly : Type 0) (ordered : lawful ≡ true → Orderly) (image : Option E) where
      -- the image of all rows is stored
      pub whole_finds : refusal_by b (Whole tag) ≡ None → (Orderly → Wholes m (take within x) root image) → (image ≡ None → NoTree (take within x) root) → Finds lawful m before (Whole tag) image 0
      whole_finds accepted value refused =
          let at = rooted_lent in
          record {
            there = λ none. refused none tree at.stands at.top;
            is_image = λ l. value (ordered l) tree at.stands at.top (whole_true sound tag accepted l) ∙ ap (λ w. Some (image_of m w)) (sym (word_is tag before));
            cheap = omega arith;
          }

      -- the image of a range is computed from stored ones, for few products
      pub range_finds : (first last ahead from to n told tells : ℕ) → ahead ≡ first - 1 → from ≡ min ahead 65535 → to ≡ min last 65535 → n < 2 ^ 64 → tells < 2 ^ 64 → tells ≡ (told + n) % 2 ^ 64 → refusal_by b (Range tag first last) ≡ None → (Orderly → Ranges m (take within x) root from to image) → (image ≡ None → Never (take within x) root to) → RangeCosts (take within x) root to told tells → Finds lawful m before (Range tag first last) image n
      range_finds first last ahead from to n told tells ahead_is from_is to_is few fits risen accepted value refused costs =
          let at = rooted_lent in
          let asked = range_within sound tag first last accepted in
          let given : Part = record { root = root; state = Settled; unused = b.unused } in
          let stood = found sound tag given root_is refl in
          let small = stood.few in
          let low = (bounded tree (omega arith)).few small in
          let book = plain_of before in
          let w = rows_of [] tag book in
          let wide : max (length w) (length w) ≡ size tree = (let e : length w ≡ length (rows tree) = ap length (word_is tag before) in let l = rows_long tree in omega arith) in
          let spent = costs.by_rows tree at (omega arith) stood.balanced in
          let exact : n ≡ spent.0 = rise_exact told tells n spent.0 fits few (omega (arith, spent.1)) risen spent.2 in
          let most : highest (max (length w) (length w)) ≡ highest (size tree) = ap highest wide in
          let named : part (rows tree) from to ≡ take ((last + 1) - first) (drop (first - 1) w) =
          ap₂ (λ k j. take k (drop j (rows tree))) {x = to - from} {y = (last + 1) - first} (omega arith) (omega arith) ∙ ap (λ v. take ((last + 1) - first) (drop (first - 1) v)) (sym (word_is tag before)) in
          record {
            there = λ none. refused none tree at (omega arith);
            is_image = λ l. value (ordered l) tree at (range_true sound tag first last accepted l) (omega arith) ∙ ap (λ v. Some (image_of m v)) named;
            cheap = omega (arith, spent.1);
          }
