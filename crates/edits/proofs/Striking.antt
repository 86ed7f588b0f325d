-- A row struck, from the walks down and the way up.
use Rattle.std.proofs.Common.{◌≡◌, ℕ, ◌+◌, ◌*◌, ◌^◌, ◌<◌, ◌≤◌, ◌≢◌, List, [], ◌∷◌, ◌++◌, length, set, Some, None, Option, sym, refl, ap, ◌∙◌, subst, arith, length-set}
use Rattle.std.specs.List.{slice_get}
use Rattle.std.proofs.lemmas.List.{append-nil}
use Rattle.rows.specs.declared.kind.Kind.{Kind}
use Rattle.monoid.specs.Meaning.{Meaning}
use Rattle.monoid.specs.Laws.{Lawful}
use Rattle.cells.specs.declared.cell.Cell.{Cell}
use Rattle.cells.specs.declared.mode.Mode.{Mode}
use Rattle.cells.specs.Trees.{Tree, leaf, node, link, rows, size, height, Balanced, Stands, count, here, Distinct, cell}
use Rattle.cells.specs.Truth.{True}
use Rattle.cells.specs.Counts.{Spent}
use Rattle.cells.specs.Asking.{cost}
use Rattle.cells.proofs.Lookup.{some_one, none-some, nth_within, nth_set_same, nth_set_other}
use Rattle.cells.proofs.Frame.{here_same, stands_kept}
use Rattle.climb.specs.Frames.{Frame, on_left, on_right, plug, over, before, Along}
use Rattle.climb.specs.Rises.{Around, TrueUp, Risen, Rises}
use Rattle.climb.proofs.Joining.{apart_places}
use Rattle.climb.proofs.Plugging.{plug-count, plug-size, plug-height, plug_deep, plug_balanced, true-parts, around_kept, around_whole}
use Rattle.edits.specs.declared.find.Found.{Found}
use Rattle.edits.specs.declared.strike.Struck.{Struck}
use Rattle.edits.specs.Walks.{Leads, Finds, Lowest, Lowers}
use Rattle.edits.specs.Edited.{Sheet, dearest}
use Rattle.edits.specs.Strikes.{recast, Recasts, struck, StruckRow, StrikesEnd, StrikesInner, Strikes}
use Rattle.edits.proofs.Around.{rows_strike, rows_first}
use Rattle.edits.proofs.Editing.{low, risen_edited}

module _ {E : Type 0} where
  -- frames under frames
  plug-append : (a b : List (Frame E)) (s : Tree E) → plug (a ++ b) s ≡ plug b (plug a s)
  plug-append [] b s = refl
  plug-append (f ∷ a) b s = plug-append a b (over f s)

  around_append : (x : List (Cell E)) (a b : List (Frame E)) → Around x a → Around x b → Around x (a ++ b)
  around_append x [] b p q = q
  around_append x (f ∷ a) b p q = (p.0, around_append x a b p.1 q)

  true-append : (m : Meaning E) (a b : List (Frame E)) → TrueUp m a → TrueUp m b → TrueUp m (a ++ b)
  true-append m [] b p q = q
  true-append m (f ∷ a) b p q = (p.0, true-append m a b p.1 q)

  -- a subtree for another of its height
  balanced_swap : (up : List (Frame E)) (s t : Tree E) → height s ≡ height t → (Balanced s → Balanced t) → Balanced (plug up s) → Balanced (plug up t)
  balanced_swap [] s t e f b = f b
  balanced_swap (on_left i k p r ∷ up) s t e f b = balanced_swap up (node s i k p r) (node t i k p r) (omega arith) (λ v. let a = v.0.0 in let c = v.0.1 in ((omega arith, omega arith), f v.1, v.2)) b
  balanced_swap (on_right l i k p ∷ up) s t e f b = balanced_swap up (node l i k p s) (node l i k p t) (omega arith) (λ v. let a = v.0.0 in let c = v.0.1 in ((omega arith, omega arith), v.1, f v.2)) b

  height_swap : (up : List (Frame E)) (s t : Tree E) → height s ≡ height t → height (plug up s) ≡ height (plug up t)
  height_swap up s t e = let a = plug-height up s t (omega arith) in let b = plug-height up t s (omega arith) in omega arith

  leaf_of : (t : Tree E) → None ≡ link t → t ≡ leaf
  leaf_of leaf e = refl
  leaf_of (node l i k p r) e = absurd (none-some e)

-- what was struck, from the root that the way up gave
abbrev pub freeing : Option (Option ℕ) → ℕ → Option Struck
freeing None freed = None
freeing (Some root) freed = Some (record { root = root; freed = freed })

-- old is what stood in the place of the subtree s
risen_struck : {E : Type 0} (m : Meaning E) (due : Type 0) → (due → Lawful m) → (mode : Mode) (told tells : ℕ) (x y z : List (Cell E)) (t : Tree E) (n freed : ℕ) (up : List (Frame E)) (old s u : Tree E) (out : Option (Option ℕ)) → Balanced (plug up old) → height (plug up old) ≡ height t → (due → True m t → TrueUp m up × True m s) → Balanced s → height old ≤ height s + 1 → height s ≤ height old → ((q : ℕ) → count q (plug up s) + here q freed ≡ count q t) → Distinct t → size (plug up s) < 2 ^ 16 → Risen m due y z up s u → rows (plug up s) ≡ struck (rows t) n → out ≡ Some (link u) → ((q : ℕ) → count q (plug up s) ≡ 0 → slice_get y q ≡ slice_get x q) → length y ≡ length x → Spent (cost mode (dearest t)) told tells → StruckRow m due mode told tells x z t n (freeing out freed)
risen_struck m due laws mode told tells x y z t n freed up old s u out bo ht tr bs h₁ h₂ ec dis few r ew eo same long spent =
    let below = (r.balance old 1 0 bo bs h₁ (omega arith) (omega arith)).2 in
    record {
      after = u;
      freed = freed;
      is = ap (λ v. freeing v freed) eo;
      edited = risen_edited m due laws mode told tells x y z (λ q. count q u) t (struck (rows t) n) up old s u 1 0 bo ht tr bs h₁ (omega arith) (omega arith) (λ q. let e = ec q in let d = dis q in omega arith) few r ew (λ q none. sym (r.places q) ∙ none) (λ q none. same q (sym (r.places q) ∙ none)) long spent;
      places = λ q. ap (λ v. v + here q freed) (r.places q) ∙ ec q;
      low = omega arith;
    }

module _ {E : Type 0} (m : Meaning E) (due : Type 0) (laws : due → Lawful m) (mode : Mode) (told tells : ℕ) (x z : List (Cell E)) (w : Found) (a : Option ℕ) where
  end_at : (out : Option (Option ℕ)) → Rises m due x z w.way a out → ((most : ℕ) → 6 * w.way.depth ≤ most → Spent (cost mode most) told tells) → (root : Option ℕ) (t : Tree E) (n : ℕ) → Sheet x root t → (up : List (Frame E)) (l : Tree E) (k : Kind) (p : E) → t ≡ plug up (node l w.place k p leaf) → before up + size l ≡ n → Along w.way up → a ≡ link l → StruckRow m due mode told tells x z t n (freeing out w.place)
  end_at out rise spent root t n s up l k p et row al ea =
      let old = node l w.place k p leaf in
      let lo = low t s.balanced s.few in
      let few = s.few in
      let ht : height t ≡ height (plug up old) = ap height et in
      let st : size t ≡ size (plug up old) = ap size et in
      let hp = plug-height up l old (omega arith) in
      let sp₁ = plug-size up l in
      let sp₂ = plug-size up old in
      let dp = plug_deep up old in
      let deep = al.deep in
      let ec : (q : ℕ) → count q (plug up l) + here q w.place ≡ count q t = (λ q. let e : count q t ≡ count q (plug up old) = ap (count q) et in let e₁ = plug-count q up old in let e₂ = plug-count q up l in omega arith) in
      let ar = around_whole x up old (subst (Stands x) et s.stands) in
      let g = rise up l al ar.0 ar.1.1 ea (λ q. let e = ec q in let d = s.distinct q in omega arith) (omega arith) (omega arith) (omega arith) in
      let bt = subst Balanced et s.balanced in
      let bo = plug_balanced up old bt in
      let ew : rows (plug up l) ≡ struck (rows t) n = rows_strike up l w.place k p leaf l n row (sym (append-nil (rows l))) ∙ ap (λ v. struck (rows v) n) (sym et) in
      risen_struck m due laws mode told tells x x z t n w.place up old l g.0 out bt (sym ht) (λ d h. let parts = true-parts m up old (subst (True m) et h) in (parts.0, parts.1.1)) bo.1 (let e = bo.0.0 in omega arith) (omega arith) ec s.distinct (omega arith) g.2 ew g.1 (λ q none. refl) refl (spent (dearest t) (omega arith))

  pub end_done : (out : Option (Option ℕ)) → Rises m due x z w.way a out → ((most : ℕ) → 6 * w.way.depth ≤ most → Spent (cost mode most) told tells) → StrikesEnd m due mode told tells x z w a (freeing out w.place)
  end_done out rise spent root t n s g ea er = end_at out rise spent root t n s g.up g.left g.kind g.stored (g.whole ∙ ap (λ v. plug g.up (node g.left w.place g.kind g.stored v)) (leaf_of g.right er)) g.row g.along ea

  pub end_refused : (out : Option Struck) → Rises m due x z w.way a None → ((most : ℕ) → 6 * w.way.depth ≤ most → Spent (cost mode most) told tells) → StrikesEnd m due mode told tells x z w a out
  end_refused out rise spent root t n s g ea er = absurd (none-some (end_done None rise spent root t n s g ea er).is)

module _ {E : Type 0} (m : Meaning E) (due : Type 0) (laws : due → Lawful m) (mode : Mode) (told tells : ℕ) (x y z : List (Cell E)) (i : ℕ) (v : Found) (d : Cell E) where
  inner_at : (out : Option (Option ℕ)) → Some d ≡ slice_get x v.place → Recasts x y i d.kind → Rises m due y z v.way d.right out → ((most : ℕ) → 6 * v.way.depth ≤ most → Spent (cost mode most) told tells) → (root : Option ℕ) (t : Tree E) (n : ℕ) → Sheet x root t → (up : List (Frame E)) (l : Tree E) (k : Kind) (p : E) (down : List (Frame E)) (kj : Kind) (pj : E) (b : Tree E) → t ≡ plug up (node l i k p (plug down (node leaf v.place kj pj b))) → before up + size l ≡ n → before down ≡ 0 → Along v.way (down ++ (on_right l i d.kind p ∷ up)) → StruckRow m due mode told tells x z t n (freeing out v.place)
  inner_at out rd rc rise spent root t n s up l k p down kj pj b et row first al =
      let j = v.place in
      let old = node leaf j kj pj b in
      let sub = plug down old in
      let top = node l i k p sub in
      let f = on_right l i d.kind p in
      let fs = down ++ (f ∷ up) in
      let new = node l i d.kind p (plug down b) in
      let written = recast (cell l k p sub) d.kind in
      let ar = around_whole x up top (subst (Stands x) et s.stands) in
      let ar₂ = around_whole x down old ar.1.2 in
      let ed : d ≡ cell leaf kj pj b = some_one (rd ∙ ar₂.1.0) in
      let ek : d.kind ≡ kj = ap (λ (w : Cell E). w.kind) ed in
      let ey : y ≡ set x i written = rc (cell l k p sub) ar.1.0 in
      let same : (q : ℕ) → q ≢ i → slice_get y q ≡ slice_get x q = (λ q ne. ap (λ (w : List (Cell E)). slice_get w q) ey ∙ nth_set_other x i q written ne) in
      let there : slice_get y i ≡ Some written = ap (λ (w : List (Cell E)). slice_get w i) ey ∙ nth_set_same x i written (nth_within x i (cell l k p sub) ar.1.0) in
      let ep : plug fs b ≡ plug up new = plug-append down (f ∷ up) b in
      let lo = low t s.balanced s.few in
      let few = s.few in
      let ht : height t ≡ height (plug up top) = ap height et in
      let st : size t ≡ size (plug up top) = ap size et in
      let ct : (q : ℕ) → count q t ≡ count q (plug up leaf) + (count q l + here q i + (count q (plug down leaf) + (here q j + count q b))) = (λ q. let e : count q t ≡ count q (plug up top) = ap (count q) et in let e₁ = plug-count q up top in let e₂ = plug-count q down old in omega arith) in
      let cn : (q : ℕ) → count q (plug fs b) ≡ count q (plug up leaf) + (count q l + here q i + (count q (plug down leaf) + count q b)) = (λ q. let e : count q (plug fs b) ≡ count q (plug up new) = ap (count q) ep in let e₁ = plug-count q up new in let e₂ = plug-count q down b in omega arith) in
      let ec : (q : ℕ) → count q (plug fs b) + here q j ≡ count q t = (λ q. let a₁ = ct q in let a₂ = cn q in omega arith) in
      let one = here_same i in
      let at = ct i in
      let dis = s.distinct i in
      let eh : height (plug fs b) ≡ height (plug up new) = ap height ep in
      let h₁ = plug-height down b old (omega arith) in
      let h₂ = plug-height up new top (omega arith) in
      let es : size (plug fs b) ≡ size (plug up new) = ap size ep in
      let s₁ = plug-size up new in
      let s₂ = plug-size up top in
      let s₃ = plug-size down b in
      let s₄ = plug-size down old in
      let dp = plug_deep fs b in
      let deep = al.deep in
      let away : (t' : Tree E) → count i t' ≡ 0 → (q : ℕ) → 0 < count q t' → q ≢ i = (λ t' none q some e. apart_places t' i q none some (sym e)) in
      let around : Around y fs = around_append y down (f ∷ up) (around_kept x y down (λ q h. same q (away (plug down leaf) (omega arith) q h)) ar₂.0) ((written, there, refl, refl, stands_kept x y l (λ q h. same q (away l (omega arith) q h)) ar.1.1), around_kept x y up (λ q h. same q (away (plug up leaf) (omega arith) q h)) ar.0) in
      let sb : Stands y b = stands_kept x y b (λ q h. same q (away b (omega arith) q h)) ar₂.1.2 in
      let g = rise fs b al around sb (ap (λ (w : Cell E). w.right) ed) (λ q. let e = ec q in let e₁ = s.distinct q in omega arith) (omega arith) (omega arith) (omega arith) in
      let bt = subst Balanced et s.balanced in
      let b₁ = plug_balanced up top bt in
      let b₂ = plug_balanced down old b₁.2 in
      let bo : Balanced (plug fs old) = subst Balanced (sym (plug-append down (f ∷ up) old)) (balanced_swap up top (node l i d.kind p sub) refl (λ w. w) bt) in
      let er : rows new ≡ rows l ++ rows sub = ap (λ w. rows l ++ w) (ap (λ w. w ∷ rows (plug down b)) ek ∙ sym (rows_first down j kj pj b first)) in
      let ew : rows (plug fs b) ≡ struck (rows t) n = ap rows ep ∙ rows_strike up l i k p sub new n row er ∙ ap (λ w. struck (rows w) n) (sym et) in
      risen_struck m due laws mode told tells x y z t n j fs old b g.0 out bo (ap height (plug-append down (f ∷ up) old) ∙ height_swap up (node l i d.kind p sub) top refl ∙ sym ht)
      (λ o h. let d₁ = true-parts m up top (subst (True m) et h) in let d₂ = true-parts m down old d₁.1.2 in (true-append m down (f ∷ up) d₂.0 (d₁.1.1, d₁.0), d₂.1.2))
      b₂.2 (omega arith) (omega arith) ec s.distinct (omega arith) g.2 ew g.1
      (λ q none. same q (λ e. let e₁ : count q (plug fs b) ≡ count i (plug fs b) = ap (λ w. count w (plug fs b)) e in let e₂ = cn i in omega arith))
      (ap length ey ∙ length-set x i written) (spent (dearest t) (omega arith))

module _ {E : Type 0} (m : Meaning E) (due : Type 0) (laws : due → Lawful m) (mode : Mode) (told tells : ℕ) (x y z : List (Cell E)) (w : Found) (j : ℕ) where
  reach : (kk : Kind) (out : Option Found) → Lowers x w j out → (root : Option ℕ) (t : Tree E) (n : ℕ) → Sheet x root t → (g : Leads t n w) → Some j ≡ link g.right → (v : Found) × (out ≡ Some v) × Lowest (on_right g.left w.place kk g.stored ∷ g.up) g.right v
  reach kk out f root t n s g e =
      let top = node g.left w.place g.kind g.stored g.right in
      let ar = around_whole x g.up top (subst (Stands x) g.whole s.stands) in
      let lo = low t s.balanced s.few in
      let ht : height t ≡ height (plug g.up top) = ap height g.whole in
      let dp = plug_deep g.up top in
      f (on_right g.left w.place kk g.stored) g.up g.right refl refl g.along ar.1.2 e (omega arith)

  pub inner_no_next : (out : Option Struck) → Lowers x w j None → StrikesInner m due mode told tells x z w j out
  inner_no_next out f root t n s g e = absurd (none-some (reach g.kind None f root t n s g e).1)

  module _ (v : Found) (f : Lowers x w j (Some v)) where
    lowest_is : (kk : Kind) (root : Option ℕ) (t : Tree E) (n : ℕ) → Sheet x root t → (g : Leads t n w) → Some j ≡ link g.right → Lowest (on_right g.left w.place kk g.stored ∷ g.up) g.right v
    lowest_is kk root t n s g e =
        let r = reach kk (Some v) f root t n s g e in
        subst (λ (u : Found). Lowest (on_right g.left w.place kk g.stored ∷ g.up) g.right u) (sym (some_one r.1)) r.2

    pub inner_no_cell : (out : Option Struck) → None ≡ slice_get x v.place → StrikesInner m due mode told tells x z w j out
    inner_no_cell out rd root t n s g e =
        let lo = lowest_is g.kind root t n s g e in
        let top = node g.left w.place g.kind g.stored g.right in
        let ar = around_whole x g.up top (subst (Stands x) g.whole s.stands) in
        let ar₂ = around_whole x lo.down (node leaf v.place lo.kind lo.stored lo.right) (subst (Stands x) lo.whole ar.1.2) in
        absurd (none-some (rd ∙ ar₂.1.0))

    pub inner_done : (d : Cell E) (out : Option (Option ℕ)) → Some d ≡ slice_get x v.place → Recasts x y w.place d.kind → Rises m due y z v.way d.right out → ((most : ℕ) → 6 * v.way.depth ≤ most → Spent (cost mode most) told tells) → StrikesInner m due mode told tells x z w j (freeing out v.place)
    inner_done d out rd rc rise spent root t n s g e =
        let lo = lowest_is d.kind root t n s g e in
        inner_at m due laws mode told tells x y z w.place v d out rd rc rise spent root t n s g.up g.left g.kind g.stored lo.down lo.kind lo.stored lo.right (g.whole ∙ ap (λ u. plug g.up (node g.left w.place g.kind g.stored u)) lo.whole) g.row lo.first lo.along

    pub inner_refused : (d : Cell E) (out : Option Struck) → Some d ≡ slice_get x v.place → Recasts x y w.place d.kind → Rises m due y z v.way d.right None → ((most : ℕ) → 6 * v.way.depth ≤ most → Spent (cost mode most) told tells) → StrikesInner m due mode told tells x z w j out
    inner_refused d out rd rc rise spent root t n s g e = absurd (none-some (inner_done d None rd rc rise spent root t n s g e).is)

-- where the row was found
module _ {E : Type 0} (x : List (Cell E)) (root : Option ℕ) (n : ℕ) where
  pub find_refused : Finds x root n None → (t : Tree E) → Sheet x root t → n < size t → ⊥
  find_refused find t s h = let lo = low t s.balanced s.few in none-some (find t s.stands s.top (omega arith) h).1

  module _ (w : Found) (find : Finds x root n (Some w)) (t : Tree E) (s : Sheet x root t) (h : n < size t) where
    pub leads_at : Leads t n w
    leads_at =
        let lo = low t s.balanced s.few in
        let f = find t s.stands s.top (omega arith) h in
        subst (λ (v : Found). Leads t n v) (sym (some_one f.1)) f.2

    pub cell_at : (g : Leads t n w) → slice_get x w.place ≡ Some (cell g.left g.kind g.stored g.right)
    cell_at g = (around_whole x g.up (node g.left w.place g.kind g.stored g.right) (subst (Stands x) g.whole s.stands)).1.0

module _ {E : Type 0} (m : Meaning E) (due : Type 0) (mode : Mode) (told tells : ℕ) (x z : List (Cell E)) (root : Option ℕ) (n : ℕ) where
  pub strike_no_row : (out : Option Struck) → Finds x root n None → Strikes m due mode told tells x z root n out
  strike_no_row out find t s h = absurd (find_refused x root n find t s h)

  module _ (w : Found) (find : Finds x root n (Some w)) where
    pub strike_no_cell : (out : Option Struck) → None ≡ slice_get x w.place → Strikes m due mode told tells x z root n out
    strike_no_cell out rd t s h = absurd (none-some (rd ∙ cell_at x root n w find t s h (leads_at x root n w find t s h)))

    pub strike_by_end : (c : Cell E) (out : Option Struck) → Some c ≡ slice_get x w.place → c.right ≡ None → StrikesEnd m due mode told tells x z w c.left out → Strikes m due mode told tells x z root n out
    strike_by_end c out rd er go t s h =
        let g = leads_at x root n w find t s h in
        let e : c ≡ cell g.left g.kind g.stored g.right = some_one (rd ∙ cell_at x root n w find t s h g) in
        go root t n s g (ap (λ (v : Cell E). v.left) e) (sym er ∙ ap (λ (v : Cell E). v.right) e)

    pub strike_by_inner : (c : Cell E) (j : ℕ) (out : Option Struck) → Some c ≡ slice_get x w.place → c.right ≡ Some j → StrikesInner m due mode told tells x z w j out → Strikes m due mode told tells x z root n out
    strike_by_inner c j out rd er go t s h =
        let g = leads_at x root n w find t s h in
        let e : c ≡ cell g.left g.kind g.stored g.right = some_one (rd ∙ cell_at x root n w find t s h g) in
        go root t n s g (sym er ∙ ap (λ (v : Cell E). v.right) e)
