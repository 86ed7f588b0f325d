-- A book that was just created is sound.
use Rattle.std.proofs.Common.{◌≡◌, ℕ, min, Bool, List, [], ◌++◌, map, length, take, drop, Option, sym, ap, ◌∙◌, subst, arith, length-take}
use lib.Seq.{take-append_seam}
use Rattle.monoid.specs.Meaning.{Meaning}
use Rattle.records.specs.declared.records.Records.{Records}
use Rattle.records.specs.Views.{standing}
use Rattle.records.specs.Changes.{sheet_of}
use Rattle.cells.specs.declared.cell.Cell.{Cell}
use Rattle.unused.specs.Listed.{Listed, down_from, capacity_of, Prepares}
use Rattle.calls.specs.Sound.{own, Sound}

-- the first n cells were made unused, and the others were left alone
module _ {E : Type 0} (b : Records) (n : ℕ) (x y : List (Cell E)) (first : Option ℕ) (some : n ≡ min (length x) 4096) (kept : length y ≡ length (take n x)) (cap : b.capacity ≡ min n 4096) where
  len : length y ≡ b.capacity
  len = let t = length-take n x in omega arith

  own-front : own b (y ++ drop n x) ≡ y
  own-front = ap (λ k. take k (y ++ drop n x)) (sym len) ∙ take-append_seam y (drop n x)

  -- no sheet stands, and every cell within the capacity is unused
  pub created : (lawful : Bool) (m : Meaning E) → standing b ≡ [] → b.unused ≡ first → Prepares (take n x) y first → Sound lawful m b (y ++ drop n x) []
  created lawful m none head prepared =
      let l = len in
      let t = length-take n x in
      let whole : capacity_of (take n x) ≡ b.capacity = omega arith in
      let places = down_from (capacity_of (take n x)) in
      record {
        said = ap (map sheet_of) none;
        held = tt;
        places = places;
        listed = subst (λ (cells : List (Cell E)). Listed cells b.unused places) (sym own-front) (subst (λ (h : Option ℕ). Listed y h places) (sym head) prepared.listed);
        once = λ q h. let u = prepared.once q (omega arith) in omega arith;
        beyond = λ q h. let u = (prepared.beyond q (omega arith)).0 in omega arith;
      }
