-- A tree copied whole.
use Rattle.std.proofs.Common.{◌≡◌, ℕ, ◌+◌, ◌<◌, ◌≤◌, true, false, List, [], ◌∷◌, length, Some, None, Option, sym, refl, ap, ◌∙◌, subst, arith}
use Rattle.std.specs.List.{slice_get}
use Rattle.std.proofs.lemmas.Bool.{leb-true, leb-false}
use Rattle.cells.specs.declared.cell.Cell.{Cell}
use Rattle.cells.specs.Trees.{Tree, link, size, count}
use Rattle.cells.specs.Rooted.{SizeAt}
use Rattle.cells.proofs.Lookup.{some_one, none-some}
use Rattle.cells.proofs.Frame.{stands_kept}
use Rattle.unused.specs.declared.list.Unused.{Unused}
use Rattle.unused.specs.declared.pile.Pile.{Pile}
use Rattle.unused.specs.Listed.{times, Listed, Suffices}
use Rattle.unused.specs.Piles.{tops, above}
use Rattle.unused.specs.Freeing.{sum, roots, Stood, Given}
use Rattle.whole.specs.declared.copying.Copied.{Copied}
use Rattle.whole.specs.Copying.{Same, Both, PopsLike, CopiesRows, Copies}
use Rattle.whole.specs.CopyRuns.{Sames, onto, Copying, CopiedNext, CopiesNext}
use Rattle.whole.proofs.Wholes.{split, sames_none, same_links, wholes-none, wholes_all, roots-onto, sum-onto, stood_onto, same_rows, same_true, same_balanced}

-- how far the copying of t has come
pub record Going {E : Type 0} (x₀ x : List (Cell E)) (p : Pile) (first root : Option ℕ) (t : Tree E) (is : List ℕ) (d : ℕ) : Type 0 where
  pub copies : List (Tree E)
  pub left : List ℕ
  pub copying : Copying x p first root t d copies left
  pub counts : (q : ℕ) → sum (count q) copies + times q left ≡ times q is
  pub long : length left + d ≡ length is
  pub kept : (q : ℕ) → times q is ≡ 0 → slice_get x q ≡ slice_get x₀ q

-- a list with a first place
pub record First (is : List ℕ) : Type 0 where
  pub i : ℕ
  pub rest : List ℕ
  pub are : is ≡ i ∷ rest

first_of : (is : List ℕ) → 0 < length is → First is
first_of [] h = absurd (omega arith)
first_of (i ∷ is) h = record { i = i; rest = is; are = refl }

abbrev pub GoingAll : {E : Type 0} → List (Cell E) → List (Cell E) → Pile → Option ℕ → Option ℕ → ℕ → Option ℕ → ℕ → Type 0
GoingAll {E} x₀ x p first₀ root n first d = (t : Tree E) (is : List ℕ) → Given x₀ first₀ root t is → size t ≡ n → n ≤ length is → Going x₀ x p first root t is d

module _ {E : Type 0} (x₀ : List (Cell E)) (first₀ root : Option ℕ) (n : ℕ) where
  pub going_start : (p : Pile) → tops p ≡ [] → GoingAll x₀ x₀ p first₀ root n first₀ 0
  going_start p e t is k many enough = record {
    copies = [];
    left = is;
    copying = record { rooted = k.rooted; same = subst (λ (v : List (Tree E)). Sames v []) (sym (wholes-none t 0 refl)) tt; piled = e; stood = tt; listed = k.listed; apart = λ q. let a = k.apart q in omega arith };
    counts = λ q. omega arith;
    long = omega arith;
    kept = λ q z. refl;
  }

  module _ (x : List (Cell E)) (p : Pile) (last : Option ℕ) (d : ℕ) (inv : GoingAll x₀ x p first₀ root n last d) where
    module _ (y : List (Cell E)) (p' : Pile) (lt : d < n) where
      module _ (t : Tree E) (is : List ℕ) (k : Given x₀ first₀ root t is) (many : size t ≡ n) (enough : n ≤ length is) where
        abbrev g : Going x₀ x p last root t is d
        g = inv t is k many enough

        first : First g.left
        first = let a = g.long in first_of g.left (omega arith)

        step : (out : Option Unused) → CopiesNext x y p p' last root (d + 1) out → CopiedNext x y p' root t (d + 1) g.copies first.i first.rest out
        step out next = next t d g.copies first.i first.rest refl (omega arith) (subst (λ (v : List ℕ). Copying x p last root t d g.copies v) first.are g.copying)

      pub going_no : CopiesNext x y p p' last root (d + 1) None → (out : Option Copied) → CopiesRows x₀ y first₀ root n out
      going_no next out t is k many enough = absurd (none-some (step t is k many enough None next).given)

      pub going_more : (last' : Unused) → CopiesNext x y p p' last root (d + 1) (Some last') → GoingAll x₀ y p' first₀ root n last'.first (d + 1)
      going_more last' next t is k many enough =
          let before = inv t is k many enough in
          let one = first t is k many enough in
          let f = step t is k many enough (Some last') next in
          let tq : (q : ℕ) → times q before.left ≡ times q (one.i ∷ one.rest) = (λ q. ap (times q) one.are) in
          let el : length before.left ≡ length (one.i ∷ one.rest) = ap length one.are in
          let gl = before.long in
          let first_is : last'.first ≡ f.next = ap {A = Unused} (λ v. v.first) (some_one f.given) in
          record {
            copies = f.copies;
            left = one.rest;
            copying = subst (λ (v : Option ℕ). Copying y p' v root t (d + 1) f.copies one.rest) (sym first_is) f.copying;
            counts = λ q. let a = f.counts q in let b = before.counts q in let c = tq q in omega arith;
            long = omega arith;
            kept = λ q z. let b = before.counts q in let c = tq q in f.kept q (omega arith) ∙ before.kept q z;
          }

    module _ (ed : d ≡ n) where
      -- the one tree on the pile
      pub record Single (t : Tree E) (cs : List (Tree E)) : Type 0 where
        pub copy : Tree E
        pub are : cs ≡ onto copy []
        pub same : Same t copy
        pub both : Both root (link copy)
        pub piled : tops p ≡ above (link copy) []

      single : (t : Tree E) (is : List ℕ) (k : Given x₀ first₀ root t is) (many : size t ≡ n) (enough : n ≤ length is) → Single t (inv t is k many enough).copies
      single t is k many enough =
          let g = inv t is k many enough in
          let w = g.copying in
          let s = split t [] g.copies (subst (λ (v : List (Tree E)). Sames v g.copies) (wholes_all t d (omega arith)) w.same) in
          let ea : g.copies ≡ onto s.first [] = s.are ∙ ap (onto s.first) (sames_none s.rest s.sames) in
          record {
            copy = s.first;
            are = ea;
            same = s.same;
            both = subst (λ (v : Option ℕ). Both v (link s.first)) (sym w.rooted.top) (same_links t s.first s.same);
            piled = w.piled ∙ ap roots ea ∙ roots-onto s.first [];
          }

      pub no_top : (p' : Pile) → PopsLike p p' root None → (out : Option Copied) → CopiesRows x₀ x first₀ root n out
      no_top p' pop out t is k many enough =
          let s = single t is k many enough in
          absurd (none-some (pop (link s.copy) [] s.both s.piled).0)

      pub going_done : (p' : Pile) (top : Option ℕ) (rest : Unused) → rest.first ≡ last → PopsLike p p' root (Some top) → CopiesRows x₀ x first₀ root n (Some (record { root = top; unused = rest }))
      going_done p' top rest rest_is pop t is k many enough =
          let g = inv t is k many enough in
          let s = single t is k many enough in
          let w = g.copying in
          let e : top ≡ link s.copy = some_one (pop (link s.copy) [] s.both s.piled).0 in
          record {
            copy = s.copy;
            next = rest.first;
            rest = g.left;
            given = ap (λ (v : Option ℕ). Some (record { root = v; unused = rest })) e;
            same = s.same;
            word = same_rows t s.copy s.same;
            truth = λ m tr. same_true m t s.copy s.same tr;
            balance = same_balanced t s.copy s.same;
            stands = (stood_onto x s.copy [] (subst (λ (v : List (Tree E)). Stood x v) s.are w.stood)).0;
            source = w.rooted.stands;
            listed = subst (λ (v : Option ℕ). Listed x v g.left) (sym rest_is) w.listed;
            counts = λ q. let a = g.counts q in let b : sum (count q) g.copies ≡ sum (count q) (onto s.copy []) = ap (λ (v : List (Tree E)). sum (count q) v) s.are in let c = sum-onto q s.copy [] in omega arith;
            others = λ v st apart. stands_kept x₀ x v (λ q lt. let a = apart q in g.kept q (omega arith)) st;
            kept = g.kept;
          }

module _ {E : Type 0} (x : List (Cell E)) (first root : Option ℕ) where
  pub copy_no_size : SizeAt x root None → (out : Option Copied) → Copies x x first root out
  copy_no_size sized out = record {
    made = λ t is k enough. absurd (none-some (sized t k.rooted.stands k.rooted.top));
    refused = λ t is k few. absurd (none-some (sized t k.rooted.stands k.rooted.top));
  }

  module _ (n : ℕ) (sized : SizeAt x root (Some n)) where
    many : (t : Tree E) (is : List ℕ) → Given x first root t is → n ≡ size t
    many t is k = some_one (sized t k.rooted.stands k.rooted.top)

    pub copy_too_few : Suffices x first n false → Copies x x first root None
    copy_too_few suffices = record {
      made = λ t is k enough. let lt = leb-false n (length is) (sym (suffices is k.listed)) in let m = many t is k in absurd (omega arith);
      refused = λ t is k few. (refl, refl);
    }

    pub copied : (y : List (Cell E)) (out : Option Copied) → Suffices x first n true → CopiesRows x y first root n out → Copies x y first root out
    copied y out suffices rows = record {
      made = λ t is k enough. rows t is k (sym (many t is k)) (leb-true n (length is) (sym (suffices is k.listed)));
      refused = λ t is k few. let le = leb-true n (length is) (sym (suffices is k.listed)) in let m = many t is k in absurd (omega arith);
    }
