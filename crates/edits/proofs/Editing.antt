-- A changed subtree, risen, makes an edited sheet.
use Rattle.std.proofs.Common.{◌≡◌, ℕ, ◌+◌, ◌^◌, ◌<◌, ◌≤◌, max, List, ◌∷◌, ◌++◌, length, Option, sym, refl, ap, ◌∙◌, subst, arith}
use Rattle.std.specs.List.{slice_get}
use Rattle.monoid.specs.Meaning.{Meaning}
use Rattle.monoid.specs.Laws.{Lawful}
use Rattle.monoid.specs.Words.{Word}
use Rattle.monoid.proofs.Words.{image_sound}
use Rattle.cells.specs.declared.cell.Cell.{Cell}
use Rattle.cells.specs.declared.mode.Mode.{Mode}
use Rattle.cells.specs.declared.mode.Mode.TheVariants.{Asking, Quiet}
use Rattle.cells.specs.Trees.{Tree, leaf, node, rows, size, height, Balanced, count, Distinct}
use Rattle.cells.specs.Truth.{True}
use Rattle.cells.specs.Counts.{Spent}
use Rattle.cells.specs.Asking.{cost}
use Rattle.cells.proofs.Frame.{stands_kept, rows_long}
use Rattle.heights.proofs.Fewest.{balanced_rows}
use Rattle.heights.specs.Heights.{highest}
use Rattle.heights.proofs.Highest.{greatest, highest_up, below_limit}
use Rattle.climb.specs.declared.way.Way.{Way}
use Rattle.climb.specs.Frames.{Frame, plug}
use Rattle.climb.specs.Rises.{TrueUp, Risen, Rises}
use Rattle.edits.specs.Edited.{AllSound, dearest, dearest_of, Edited}

-- a balanced tree whose size fits a cell is not too deep for a walk
pub low : {E : Type 0} (t : Tree E) → Balanced t → size t < 2 ^ 16 → height t ≤ 22
low t b few = let h = below_limit (height t) (size t) (balanced_rows t b) few in omega arith

pub true_sound : {E : Type 0} {m : Meaning E} → Lawful m → (t : Tree E) → True m t → AllSound m t
true_sound laws leaf h = tt
true_sound {m = m} laws (node l i k p r) h = (ap m.sound h.0 ∙ image_sound laws (rows l ++ (k ∷ rows r)), true_sound laws l h.1, true_sound laws r h.2)

pub same_size : {E : Type 0} (s t : Tree E) → rows s ≡ rows t → size s ≡ size t
same_size s t e = sym (rows_long s) ∙ ap length e ∙ rows_long t

-- a recogniser that means the same, and is in order where the first was
pub rises_as : {E : Type 0} (m n : Meaning E) (due owed : Type 0) (x y : List (Cell E)) (w : Way) (a : Option ℕ) (out : Option (Option ℕ)) → n ≡ m → (due → owed) → Rises n owed x y w a out → Rises m due x y w a out
rises_as {E} m n due owed x y w a out same kept rises up s al ar ss ea dis tall big deep =
    let d = rises up s al ar ss ea dis tall big deep in
    let r = d.2 in
    (d.0, d.1, record { same_rows = r.same_rows; places = r.places; truth = λ o. subst (λ (v : Meaning E). TrueUp v up → True v s → True v d.0) same (r.truth (kept o)); balance = r.balance; stands = r.stands; kept = r.kept; long = r.long })

-- a bound by the height is one by the rows, of the tree before or after
spent_more : (mode : Mode) (few more told tells : ℕ) → few ≤ more → Spent (cost mode few) told tells → Spent (cost mode more) told tells
spent_more Asking few more told tells h s = (s.0, omega (arith, s.1), s.2)
spent_more Quiet few more told tells h s = s

pub spent_by_rows : {E : Type 0} (mode : Mode) (t u : Tree E) (told tells : ℕ) → Spent (cost mode (dearest t)) told tells → Balanced t → Spent (cost mode (dearest_of (max (size t) (size u)))) told tells
spent_by_rows mode t u told tells s balanced =
    let low : height t ≤ highest (size t) = (greatest (size t)).most (height t) (balanced_rows t balanced) in
    let up = highest_up (size t) (max (size t) (size u)) (omega arith) in
    spent_more mode (dearest t) (dearest_of (max (size t) (size u))) told tells (omega arith) s

-- old is what stood in the place of the subtree s
module _ {E : Type 0} (m : Meaning E) (due : Type 0) (laws : due → Lawful m) (mode : Mode) (told tells : ℕ) (x y z : List (Cell E)) (touched : ℕ → ℕ) (t : Tree E) (word : Word) (up : List (Frame E)) (old s u : Tree E) (lo hi : ℕ) where
  pub risen_edited : Balanced (plug up old) → height (plug up old) ≡ height t → (due → True m t → TrueUp m up × True m s) → Balanced s → height old ≤ height s + lo → height s ≤ height old + hi → lo + hi ≤ 1 → Distinct (plug up s) → size (plug up s) < 2 ^ 16 → Risen m due y z up s u → rows (plug up s) ≡ word → ((q : ℕ) → touched q ≡ 0 → count q (plug up s) ≡ 0) → ((q : ℕ) → touched q ≡ 0 → slice_get y q ≡ slice_get x q) → length y ≡ length x → Spent (cost mode (dearest t)) told tells → Edited m due mode told tells x z touched t word u
  risen_edited bo ht tr bs h₁ h₂ h₃ dis few r ew cover same long spent =
      let b = r.balance old lo hi bo bs h₁ h₂ h₃ in
      let above = b.1 in
      let below = b.2 in
      let truth : due → True m t → True m u = (λ d h. let parts = tr d h in r.truth d parts.0 parts.1) in
      let kept : (q : ℕ) → touched q ≡ 0 → slice_get z q ≡ slice_get x q = (λ q none. r.kept q (cover q none) ∙ same q none) in
      record {
        sheet = record {
          stands = r.stands;
          top = refl;
          distinct = λ q. let e = r.places q in let d = dis q in omega arith;
          balanced = b.0;
          few = let e = same_size u (plug up s) r.same_rows in omega arith;
        };
        same_rows = r.same_rows ∙ ew;
        truth = truth;
        sound = λ d h. true_sound (laws d) u (truth d h);
        no_higher = omega arith;
        no_lower = omega arith;
        kept = kept;
        others = λ o apart st. stands_kept x z o (λ q some. kept q (let a = apart q in omega arith)) st;
        long = r.long ∙ long;
        counted = spent;
        by_rows = spent_by_rows mode t u told tells spent;
      }
