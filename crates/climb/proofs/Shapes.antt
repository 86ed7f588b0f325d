-- The three rows that come to stand anew, for each of the four ways in which a side can be too high.
use Rattle.std.proofs.Common.{ℕ, ◌+◌, ◌<◌, ◌≤◌, List, append_assoc, arith}
use Rattle.rows.specs.declared.kind.Kind.{Kind}
use Rattle.cells.specs.declared.cell.Cell.{Cell}
use Rattle.cells.specs.declared.mend.Row.{Row}
use Rattle.cells.specs.Trees.{Tree, node, height, Stands}
use Rattle.cells.proofs.Lookup.{nth_within}
use Rattle.climb.specs.Triples.{Parts}
use Rattle.climb.specs.Plans.{Picked}

module _ {E : Type 0} (x : List (Cell E)) (row : Row) (other a b c : Tree E) (j : ℕ) (kj : Kind) (pj : E) (g : ℕ) (kg : Kind) (pg : E) where
  -- the left side leans to its left
  abbrev pub parts-left_outer : Parts E
  parts-left_outer = record { first = a; low = record { place = g; kind = kg }; second = b; middle = record { place = j; kind = kj }; third = c; high = row; fourth = other }

  pub picked_left_outer : Stands x (node (node a g kg pg b) j kj pj c) → Stands x other → height other + 1 < height (node (node a g kg pg b) j kj pj c) → height c ≤ height (node a g kg pg b) → Picked x (node (node a g kg pg b) j kj pj c) row other parts-left_outer
  picked_left_outer s o tall lean = record {
    standing = λ within. record { trees = (s.1.1, s.1.2, s.2, o); rows = (nth_within x g _ s.1.0, nth_within x j _ s.0, within) };
    shaped = λ p q v. record {
      same_rows = simp append_assoc;
      wide = omega arith;
      high = omega arith;
      places = λ z. omega arith;
      even = λ e. absurd (omega arith);
      balance = λ bl br near near'. (((omega arith, omega arith), bl.1, ((omega arith, omega arith), bl.2, br)), omega arith);
    };
    truth = λ m tl tr. (tl.1.1, tl.1.2, tl.2, tr);
    places = λ z. omega arith;
    roomy = λ room. (omega arith, omega arith);
  }

  -- the left side leans to its right
  abbrev pub parts-left_inner : Parts E
  parts-left_inner = record { first = a; low = record { place = j; kind = kj }; second = b; middle = record { place = g; kind = kg }; third = c; high = row; fourth = other }

  pub picked_left_inner : Stands x (node a j kj pj (node b g kg pg c)) → Stands x other → height other + 1 < height (node a j kj pj (node b g kg pg c)) → height a < height (node b g kg pg c) → Picked x (node a j kj pj (node b g kg pg c)) row other parts-left_inner
  picked_left_inner s o tall lean = record {
    standing = λ within. record { trees = (s.1, s.2.1, s.2.2, o); rows = (nth_within x j _ s.0, nth_within x g _ s.2.0, within) };
    shaped = λ p q v. record {
      same_rows = simp append_assoc;
      wide = omega arith;
      high = omega arith;
      places = λ z. omega arith;
      even = λ e. absurd (omega arith);
      balance = λ bl br near near'. (((omega arith, omega arith), ((omega arith, omega arith), bl.1, bl.2.1), ((omega arith, omega arith), bl.2.2, br)), omega arith);
    };
    truth = λ m tl tr. (tl.1, tl.2.1, tl.2.2, tr);
    places = λ z. omega arith;
    roomy = λ room. (omega arith, omega arith);
  }

  -- the right side leans to its left
  abbrev pub parts-right_inner : Parts E
  parts-right_inner = record { first = other; low = row; second = a; middle = record { place = g; kind = kg }; third = b; high = record { place = j; kind = kj }; fourth = c }

  pub picked_right_inner : Stands x (node (node a g kg pg b) j kj pj c) → Stands x other → height other + 1 < height (node (node a g kg pg b) j kj pj c) → height c < height (node a g kg pg b) → Picked x other row (node (node a g kg pg b) j kj pj c) parts-right_inner
  picked_right_inner s o tall lean = record {
    standing = λ within. record { trees = (o, s.1.1, s.1.2, s.2); rows = (within, nth_within x g _ s.1.0, nth_within x j _ s.0) };
    shaped = λ p q v. record {
      same_rows = simp append_assoc;
      wide = omega arith;
      high = omega arith;
      places = λ z. omega arith;
      even = λ e. absurd (omega arith);
      balance = λ bl br near near'. (((omega arith, omega arith), ((omega arith, omega arith), bl, br.1.1), ((omega arith, omega arith), br.1.2, br.2)), omega arith);
    };
    truth = λ m tl tr. (tl, tr.1.1, tr.1.2, tr.2);
    places = λ z. omega arith;
    roomy = λ room. (omega arith, omega arith);
  }

  -- the right side leans to its right
  abbrev pub parts-right_outer : Parts E
  parts-right_outer = record { first = other; low = row; second = a; middle = record { place = j; kind = kj }; third = b; high = record { place = g; kind = kg }; fourth = c }

  pub picked_right_outer : Stands x (node a j kj pj (node b g kg pg c)) → Stands x other → height other + 1 < height (node a j kj pj (node b g kg pg c)) → height a ≤ height (node b g kg pg c) → Picked x other row (node a j kj pj (node b g kg pg c)) parts-right_outer
  picked_right_outer s o tall lean = record {
    standing = λ within. record { trees = (o, s.1, s.2.1, s.2.2); rows = (within, nth_within x j _ s.0, nth_within x g _ s.2.0) };
    shaped = λ p q v. record {
      same_rows = simp append_assoc;
      wide = omega arith;
      high = omega arith;
      places = λ z. omega arith;
      even = λ e. absurd (omega arith);
      balance = λ bl br near near'. (((omega arith, omega arith), ((omega arith, omega arith), bl, br.1), br.2), omega arith);
    };
    truth = λ m tl tr. (tl, tr.1, tr.2.1, tr.2.2);
    places = λ z. omega arith;
    roomy = λ room. (omega arith, omega arith);
  }
