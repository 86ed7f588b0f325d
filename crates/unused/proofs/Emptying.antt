-- Giving the cells of a tree back one by one.
use Rattle.std.proofs.Common.{◌≡◌, ℕ, ◌+◌, ◌-◌, ◌<◌, ◌≤◌, min, max, leb, ltb, true, false, ◌&&◌, List, [], ◌∷◌, length, Some, None, Option, sym, refl, ap, ◌∙◌, subst, arith}
use Rattle.std.proofs.lemmas.Bool.{le-leb, lt-ltb, false≢true}
use Rattle.std.specs.List.{slice_get}
use Rattle.rows.specs.declared.kind.Kind.{Kind}
use Rattle.cells.specs.declared.cell.Cell.{Cell}
use Rattle.cells.specs.Trees.{Tree, leaf, node, link, size, height, count, here, Stands, cell}
use Rattle.cells.specs.Rooted.{SizeAt}
use Rattle.cells.proofs.Lookup.{some_one, none-some, nth_within}
use Rattle.cells.proofs.Frame.{here_same, stands_kept}
use Rattle.unused.specs.declared.list.Unused.{Unused}
use Rattle.unused.specs.declared.pile.Pile.{Pile}
use Rattle.unused.specs.Listed.{times, Gives}
use Rattle.unused.specs.Piles.{tops, above, Pushes, Pops}
use Rattle.unused.specs.Descents.{low_cell, low, falling}
use Rattle.unused.specs.Freeing.{sum, roots, Low, Stood, Freeing, FreesNext, Given, Frees}

module _ {E : Type 0} where
  pub stood_kept : (x y : List (Cell E)) (ts : List (Tree E)) → ((q : ℕ) → 0 < sum (count q) ts → slice_get y q ≡ slice_get x q) → Stood x ts → Stood y ts
  stood_kept x y [] same s = tt
  stood_kept x y (t ∷ ts) same s = (stands_kept x y t (λ q h. same q (omega arith)) s.0, stood_kept x y ts (λ q h. same q (omega arith)) s.1)

  pub low_long : (ts : List (Tree E)) → Low ts → length (roots ts) ≤ 24
  low_long [] l = omega arith
  low_long (leaf ∷ ts) l = low_long ts l.1
  low_long (node a i k p b ∷ ts) l = let h = l.0 in omega arith

  -- the tree on top
  pub record Top (x : List (Cell E)) (ts : List (Tree E)) : Type 0 where
    pub l : Tree E
    pub i : ℕ
    pub k : Kind
    pub p : E
    pub r : Tree E
    pub rest : List (Tree E)
    pub are : roots ts ≡ i ∷ roots rest
    pub stands : Stands x (node l i k p r)
    pub high : height (node l i k p r) + length (roots rest) ≤ 24
    pub low : Low rest
    pub stood : Stood x rest
    pub counts : (q : ℕ) → sum (count q) ts ≡ count q l + here q i + count q r + sum (count q) rest
    pub sizes : sum size ts ≡ size l + size r + 1 + sum size rest

  pub top : (x : List (Cell E)) (ts : List (Tree E)) → 0 < sum size ts → Low ts → Stood x ts → Top x ts
  top x [] h lo s = absurd (omega arith)
  top x (leaf ∷ ts) h lo s =
      let t = top x ts (omega arith) lo.1 s.1 in
      record { l = t.l; i = t.i; k = t.k; p = t.p; r = t.r; rest = t.rest; are = t.are; stands = t.stands; high = t.high; low = t.low; stood = t.stood; counts = (λ q. let e = t.counts q in omega arith); sizes = (let e = t.sizes in omega arith) }
  top x (node l i k p r ∷ ts) h lo s =
      record { l = l; i = i; k = k; p = p; r = r; rest = ts; are = refl; stands = s.0; high = lo.0; low = lo.1; stood = s.1; counts = (λ q. omega arith); sizes = omega arith }

  above_long : (t : Tree E) (is : List ℕ) → length (above (link t) is) ≤ min 1 (height t) + length is
  above_long leaf is = omega arith
  above_long (node l i k p r) is = omega arith

  -- a tree stores the heights that it has
  pub low_tree : (x : List (Cell E)) (t : Tree E) (most : ℕ) → Stands x t → height t ≤ most → low x (link t) most ≡ true
  low_tree x leaf most s h = refl
  low_tree x (node l i k p r) most s h =
      let high : ℕ = max (height l) (height r) + 1 in
      let any : ltb 0 high ≡ true = lt-ltb 0 high (omega arith) in
      let fits : leb high most ≡ true = le-leb high most h in
      ap (λ v. low_cell v most) s.0 ∙ ap (λ v. v && leb high most) any ∙ fits

  pub falling_cell : (x : List (Cell E)) (l : Tree E) (k : Kind) (p : E) (r : Tree E) → Stands x l → Stands x r → falling x (cell l k p r) ≡ true
  falling_cell x l k p r sl sr =
      let most : ℕ = max (height l) (height r) + 1 - 1 in
      ap (λ v. v && low x (link r) most) (low_tree x l most sl (omega arith)) ∙ low_tree x r most sr (omega arith)

  pub none_left : (ts : List (Tree E)) (q : ℕ) → sum size ts ≡ 0 → sum (count q) ts ≡ 0
  none_left [] q e = refl
  none_left (leaf ∷ ts) q e = let r = none_left ts q (omega arith) in omega arith
  none_left (node l i k p r ∷ ts) q e = absurd (omega arith)

-- what a pile's calls ensure
module _ {E : Type 0} (x y : List (Cell E)) (p₀ p₁ p₂ p₃ : Pile) (first : Option ℕ) where
  pub next_none : (out : Option Unused) → Pops p₀ p₁ None → FreesNext x y p₀ p₃ first out
  next_none out pop ts is f h =
      let t = top x ts h f.low f.stood in
      absurd (none-some (pop.made t.i (roots t.rest) (f.piled ∙ t.are)).0)

  module _ (i : ℕ) (pop : Pops p₀ p₁ (Some i)) where
    pub next_no_cell : (out : Option Unused) → None ≡ slice_get x i → FreesNext x y p₀ p₃ first out
    next_no_cell out read ts is f h =
        let t = top x ts h f.low f.stood in
        let e : i ≡ t.i = some_one (pop.made t.i (roots t.rest) (f.piled ∙ t.are)).0 in
        absurd (none-some (read ∙ ap (slice_get x) e ∙ t.stands.0))

    module _ (c : Cell E) (read : Some c ≡ slice_get x i) where
      -- the two sides fit on the pile
      pub record Sides (ts : List (Tree E)) (t : Top x ts) : Type 0 where
        pub place : i ≡ t.i
        pub right_is : c.right ≡ link t.r
        pub left_is : c.left ≡ link t.l
        pub under : tops p₁ ≡ roots t.rest
        pub fits_right : length (above c.right (tops p₁)) ≤ 24
        pub fits_both : length (above c.left (above c.right (tops p₁))) ≤ 24

      pub sides : (ts : List (Tree E)) (is : List ℕ) → Freeing x p₀ first ts is → (t : Top x ts) → Sides ts t
      sides ts is f t =
          let pp = pop.made t.i (roots t.rest) (f.piled ∙ t.are) in
          let e : i ≡ t.i = some_one pp.0 in
          let ec : c ≡ cell t.l t.k t.p t.r = some_one (read ∙ ap (slice_get x) e ∙ t.stands.0) in
          let er : c.right ≡ link t.r = ap (λ (v : Cell E). v.right) ec in
          let el : c.left ≡ link t.l = ap (λ (v : Cell E). v.left) ec in
          let hi = t.high in
          let a = above_long t.r (roots t.rest) in
          let b = above_long t.l (above (link t.r) (roots t.rest)) in
          let ur : above c.right (tops p₁) ≡ above (link t.r) (roots t.rest) = ap (λ v. above v (tops p₁)) er ∙ ap (above (link t.r)) pp.1 in
          let ul : above c.left (above c.right (tops p₁)) ≡ above (link t.l) (above (link t.r) (roots t.rest)) = ap (λ v. above v (above c.right (tops p₁))) el ∙ ap (above (link t.l)) ur in
          let lr : length (above c.right (tops p₁)) ≡ length (above (link t.r) (roots t.rest)) = ap length ur in
          let ll : length (above c.left (above c.right (tops p₁))) ≡ length (above (link t.l) (above (link t.r) (roots t.rest))) = ap length ul in
          record { place = e; right_is = er; left_is = el; under = pp.1; fits_right = omega arith; fits_both = omega arith }

      pub next_not_falling : (out : Option Unused) → falling x c ≡ false → FreesNext x y p₀ p₃ first out
      next_not_falling out off ts is f h =
          let t = top x ts h f.low f.stood in
          let e : i ≡ t.i = some_one (pop.made t.i (roots t.rest) (f.piled ∙ t.are)).0 in
          let ec : c ≡ cell t.l t.k t.p t.r = some_one (read ∙ ap (slice_get x) e ∙ t.stands.0) in
          absurd (false≢true (sym off ∙ ap (falling x) ec ∙ falling_cell x t.l t.k t.p t.r t.stands.1 t.stands.2))

      pub next_no_right : (out : Option Unused) → Pushes p₁ p₂ c.right None → FreesNext x y p₀ p₃ first out
      next_no_right out push ts is f h =
          let t = top x ts h f.low f.stood in
          let e = (push.made (sides ts is f t).fits_right).0 in
          let q : ◌≡◌ {A = ℕ} 0 1 = cc in absurd (omega arith)

      fits_left : (ts : List (Tree E)) (t : Top x ts) → Sides ts t → tops p₂ ≡ above c.right (tops p₁) → length (above c.left (tops p₂)) ≤ 24
      fits_left ts t sd e = let l : length (above c.left (tops p₂)) ≡ length (above c.left (above c.right (tops p₁))) = ap (λ v. length (above c.left v)) e in let b = sd.fits_both in omega arith

      module _ (push : Pushes p₁ p₂ c.right (Some tt)) where
        pub next_no_left : (out : Option Unused) → Pushes p₂ p₃ c.left None → FreesNext x y p₀ p₃ first out
        next_no_left out push' ts is f h =
            let t = top x ts h f.low f.stood in
            let sd = sides ts is f t in
            let e = (push'.made (fits_left ts t sd (push.made sd.fits_right).1)).0 in
            let q : ◌≡◌ {A = ℕ} 0 1 = cc in absurd (omega arith)

        pub next_done : (out : Option Unused) → Pushes p₂ p₃ c.left (Some tt) → Gives x y first i out → FreesNext x y p₀ p₃ first out
        next_done out push' give ts is f h =
            let t = top x ts h f.low f.stood in
            let sd = sides ts is f t in
            let pr = (push.made sd.fits_right).1 in
            let pl = (push'.made (fits_left ts t sd pr)).1 in
            let w : i < length x = subst (λ v. v < length x) (sym sd.place) (nth_within x t.i (cell t.l t.k t.p t.r) t.stands.0) in
            let gv = give.made w in
            let hq : (q : ℕ) → here q i ≡ here q t.i = (λ q. ap (here q) sd.place) in
            let one = here_same i in
            let zero_is : times i is ≡ 0 = (let a = f.apart i in let b = t.counts i in let d = hq i in omega arith) in
            let new : List (Tree E) = t.l ∷ (t.r ∷ t.rest) in
            let piled : tops p₃ ≡ roots new = pl ∙ ap (above c.left) (pr ∙ ap (above c.right) sd.under) ∙ ap (λ v. above v (above c.right (roots t.rest))) sd.left_is ∙ ap (λ v. above (link t.l) (above v (roots t.rest))) sd.right_is in
            let hi = t.high in
            let ar = above_long t.r (roots t.rest) in
            let same : (q : ℕ) → 0 < sum (count q) new → slice_get y q ≡ slice_get x q = (λ q lt. gv.1.kept q (λ e. let a = f.apart q in let b = t.counts q in let d : here q t.i ≡ here i i = ap (λ v. here v t.i) e ∙ sym (hq i) in omega arith)) in
            let stood : Stood y new = stood_kept x y new same (t.stands.1, (t.stands.2, t.stood)) in
            record {
              next = Some i;
              trees = new;
              places = i ∷ is;
              given = gv.0;
              freeing = record { piled = piled; low = (omega arith, (omega arith, t.low)); stood = stood; listed = gv.1.listed is f.listed zero_is; apart = λ q. let a = f.apart q in let b = t.counts q in let d = hq q in omega arith };
              counts = λ q. let b = t.counts q in let d = hq q in omega arith;
              among = λ q. let b = t.counts q in omega arith;
              fewer = (let b = t.sizes in omega arith);
              kept = λ q z. gv.1.kept q (λ e. let b = t.counts q in let d : here q t.i ≡ here i i = ap (λ v. here v t.i) e ∙ sym (hq i) in omega arith);
            }

-- how far the freeing of t has come
pub record Going {E : Type 0} (x₀ x : List (Cell E)) (p : Pile) (first : Option ℕ) (t : Tree E) (is : List ℕ) (left : ℕ) : Type 0 where
  pub trees : List (Tree E)
  pub places : List ℕ
  pub freeing : Freeing x p first trees places
  pub counts : (q : ℕ) → sum (count q) trees + times q places ≡ count q t + times q is
  pub among : (q : ℕ) → sum (count q) trees ≤ count q t
  pub sizes : sum size trees ≡ left
  pub kept : (q : ℕ) → count q t ≡ 0 → slice_get x q ≡ slice_get x₀ q

abbrev pub GoingAll : {E : Type 0} → List (Cell E) → List (Cell E) → Pile → Option ℕ → Option ℕ → Option ℕ → ℕ → Type 0
GoingAll {E} x₀ x p first₀ root first left = (t : Tree E) (is : List ℕ) → Given x₀ first₀ root t is → Going x₀ x p first t is left

module _ {E : Type 0} (x₀ : List (Cell E)) (first root : Option ℕ) where
  pub not_low : low x₀ root 24 ≡ false → (y : List (Cell E)) (out : Option Unused) → Frees x₀ y first root out
  not_low off y out t is k = absurd (false≢true (sym off ∙ ap (λ v. low x₀ v 24) k.rooted.top ∙ low_tree x₀ t 24 k.rooted.stands k.rooted.low))

  pub no_size : SizeAt x₀ root None → (y : List (Cell E)) (out : Option Unused) → Frees x₀ y first root out
  no_size sized y out t is k = absurd (none-some (sized t k.rooted.stands k.rooted.top))

  root_fits : (t : Tree E) (is : List ℕ) → Given x₀ first root t is → (p : Pile) → tops p ≡ [] → length (above root (tops p)) ≤ 24
  root_fits t is k p e =
      let a = above_long t [] in
      let b : length (above root (tops p)) ≡ length (above (link t) []) = ap (λ v. length (above v (tops p))) k.rooted.top ∙ ap (λ v. length (above (link t) v)) e in
      omega arith

  pub no_start : (p p' : Pile) → tops p ≡ [] → Pushes p p' root None → (y : List (Cell E)) (out : Option Unused) → Frees x₀ y first root out
  no_start p p' e push y out t is k = let z = (push.made (root_fits t is k p e)).0 in let q : ◌≡◌ {A = ℕ} 0 1 = cc in absurd (omega arith)

  pub going_start : (p p' : Pile) (n : ℕ) → SizeAt x₀ root (Some n) → tops p ≡ [] → Pushes p p' root (Some tt) → GoingAll x₀ x₀ p' first root first n
  going_start p p' n sized e push t is k =
      let lo = k.rooted.low in
      let many : n ≡ size t = some_one (sized t k.rooted.stands k.rooted.top) in
      record {
        trees = t ∷ [];
        places = is;
        freeing = record { piled = (push.made (root_fits t is k p e)).1 ∙ ap (λ v. above v (tops p)) k.rooted.top ∙ ap (above (link t)) e; low = (omega arith, tt); stood = (k.rooted.stands, tt); listed = k.listed; apart = λ q. let a = k.apart q in omega arith };
        counts = λ q. omega arith;
        among = λ q. omega arith;
        sizes = omega arith;
        kept = λ q z. refl;
      }

  module _ (x : List (Cell E)) (p : Pile) (last : Option ℕ) (left : ℕ) (inv : GoingAll x₀ x p first root last left) where
    pub going_no : (y : List (Cell E)) (p' : Pile) → FreesNext x y p p' last None → 0 < left → (out : Option Unused) → Frees x₀ y first root out
    going_no y p' next h out t is k =
        let g = inv t is k in
        let z = g.sizes in
        absurd (none-some (next g.trees g.places g.freeing (omega arith)).given)

    pub going_more : (y : List (Cell E)) (p' : Pile) (last' : Unused) (left' : ℕ) → FreesNext x y p p' last (Some last') → 0 < left → left' + 1 ≡ left → GoingAll x₀ y p' first root last'.first left'
    going_more y p' last' left' next h el t is k =
        let g = inv t is k in
        let z = g.sizes in
        let f = next g.trees g.places g.freeing (omega arith) in
        let fe = f.fewer in
        let le : last'.first ≡ f.next = ap {A = Unused} (λ v. v.first) (some_one f.given) in
        record {
          trees = f.trees;
          places = f.places;
          freeing = subst (λ (v : Option ℕ). Freeing y p' v f.trees f.places) (sym le) f.freeing;
          counts = λ q. f.counts q ∙ g.counts q;
          among = λ q. let a = f.among q in let b = g.among q in omega arith;
          sizes = omega arith;
          kept = λ q o. let b = g.among q in f.kept q (omega arith) ∙ g.kept q o;
        }

    pub going_done : left ≡ 0 → Frees x₀ x first root (Some (record { first = last }))
    going_done el t is k =
        let g = inv t is k in
        let z = g.sizes in
        record { next = last; places = g.places; given = refl; listed = g.freeing.listed; counts = (λ q. let a = g.counts q in let b = none_left g.trees q (omega arith) in omega arith); others = (λ v s apart. stands_kept x₀ x v (λ q lt. let a = apart q in g.kept q (omega arith)) s); kept = g.kept }
