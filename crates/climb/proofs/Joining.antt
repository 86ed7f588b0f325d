-- Three rows written in their new shape, and two trees joined.
use Rattle.std.proofs.Common.{◌≡◌, ℕ, ◌<◌, ◌≤◌, ◌≢◌, List, length, Some, None, Option, sym, refl, ap, ◌∙◌, subst, arith, length-set}
use Rattle.std.specs.List.{slice_get}
use Rattle.monoid.specs.Meaning.{Meaning}
use Rattle.cells.specs.declared.cell.Cell.{Cell}
use Rattle.cells.specs.declared.mend.Row.{Row}
use Rattle.cells.specs.Trees.{Tree, link, Even, Stands, count, here, cell}
use Rattle.cells.specs.Truth.{True}
use Rattle.cells.specs.Mends.{Room, row_over, Refreshed, Mends}
use Rattle.cells.proofs.Lookup.{some_one, none-some, nth_set_same, nth_set_other}
use Rattle.cells.proofs.Frame.{here_same, here_other, stands_kept}
use Rattle.climb.specs.declared.plan.Plan.{Plan}
use Rattle.climb.specs.declared.plan.Plan.TheVariants.{Straight, Restructured}
use Rattle.climb.specs.declared.plan.Triple.{Triple}
use Rattle.climb.specs.Joins.{Joins}
use Rattle.climb.specs.Triples.{Parts, triple_of, shape}
use Rattle.climb.specs.Plans.{among, Roomy, Standing, Planned, Plans, Rebuilt, Restructures}

-- a place of one count is not a place of another
pub apart_places : {E : Type 0} (u : Tree E) (q i : ℕ) → count q u ≡ 0 → 0 < count i u → q ≢ i
apart_places u q i z p e = let w : count q u ≡ count i u = ap (λ v. count v u) e in omega arith

-- what one mend does, on trees
pub record Wrote {E : Type 0} (m : Meaning E) (due : Type 0) (x y : List (Cell E)) (row : Row) (l r : Tree E) : Type 0 where
  pub stored : E
  pub stands : Stands y (row_over l row stored r)
  pub fresh : Refreshed m due l row stored r
  pub keeps : (t : Tree E) → count row.place t ≡ 0 → Stands x t → Stands y t
  pub other : (q : ℕ) → q ≢ row.place → slice_get y q ≡ slice_get x q
  pub long : length y ≡ length x

module _ {E : Type 0} {m : Meaning E} {due : Type 0} (x y : List (Cell E)) (row : Row) where
  pub mend_wrote : (a b out : Option ℕ) (l r : Tree E) → Mends m due x y row a b out → Stands x l → Stands x r → a ≡ link l → b ≡ link r → Room l r → row.place < length x → count row.place l ≡ 0 → count row.place r ≡ 0 → (out ≡ Some row.place) × Wrote m due x y row l r
  mend_wrote a b out l r mends sl sr ea eb room within no_l no_r =
      let d = mends l r sl sr ea eb room within in
      let p = d.1.stored in
      let i = row.place in
      let c = cell l row.kind p r in
      let other : (q : ℕ) → q ≢ i → slice_get y q ≡ slice_get x q = (λ q ne. ap (λ v. slice_get v q) d.1.after ∙ nth_set_other x i q c ne) in
      let keeps : (t : Tree E) → count i t ≡ 0 → Stands x t → Stands y t = (λ t none s. stands_kept x y t (λ q some. other q (λ e. apart_places t i q none some (sym e))) s) in (
        d.0,
        record {
          stored = p;
          stands = (ap (λ v. slice_get v i) d.1.after ∙ nth_set_same x i c within, keeps l no_l sl, keeps r no_r sr);
          fresh = d.1.fresh;
          keeps = keeps;
          other = other;
          long = ap length d.1.after ∙ length-set x i c;
        },
      )

-- a recogniser that means the same, and is in order where the first was
pub mends_as : {E : Type 0} (m n : Meaning E) (due owed : Type 0) (x y : List (Cell E)) (row : Row) (a b out : Option ℕ) → n ≡ m → (due → owed) → Mends n owed x y row a b out → Mends m due x y row a b out
mends_as {E} m n due owed x y row a b out same kept mends l r sl sr ea eb room within =
    let d = mends l r sl sr ea eb room within in
    (d.0, record { stored = d.1.stored; after = d.1.after; fresh = λ h. subst (λ (v : Meaning E). True v l → True v r → True v (row_over l row d.1.stored r)) same (d.1.fresh (kept h)) })

-- three mends; the first two do not touch each other
module _ {E : Type 0} {m : Meaning E} {due : Type 0} (x y : List (Cell E)) (triple : Triple) (t : Parts E) (is : triple ≡ triple_of t) (st : Standing x t) (apart : (q : ℕ) → among q t ≤ 1) (roomy : Roomy t) where
  first_wrote : (out : Option ℕ) → Mends m due x y triple.low triple.first triple.second out → (out ≡ Some t.low.place) × Wrote m due x y t.low t.first t.second
  first_wrote out mends =
      let i = t.low.place in
      let u = apart i in
      let one = here_same i in
      let mends' : Mends m due x y t.low (link t.first) (link t.second) out = subst (λ (v : Triple). Mends m due x y v.low v.first v.second out) is mends in
      mend_wrote x y t.low (link t.first) (link t.second) out t.first t.second mends' st.trees.0 st.trees.1 refl refl (omega arith, omega arith) st.rows.0 (omega arith) (omega arith)

  second_wrote : (z : List (Cell E)) (out : Option ℕ) → Wrote m due x y t.low t.first t.second → Mends m due y z triple.high triple.third triple.fourth out → (out ≡ Some t.high.place) × Wrote m due y z t.high t.third t.fourth
  second_wrote z out w mends =
      let i = t.high.place in
      let j = t.low.place in
      let u = apart i in
      let v = apart j in
      let one = here_same i in
      let one' = here_same j in
      let long = w.long in
      let within = st.rows.2 in
      let mends' : Mends m due y z t.high (link t.third) (link t.fourth) out = subst (λ (v : Triple). Mends m due y z v.high v.third v.fourth out) is mends in
      mend_wrote y z t.high (link t.third) (link t.fourth) out t.third t.fourth mends' (w.keeps t.third (omega arith) st.trees.2) (w.keeps t.fourth (omega arith) st.trees.3) refl refl (omega arith, omega arith) (omega arith) (omega arith) (omega arith)

  rebuilt : (z v : List (Cell E)) (low high out : Option ℕ) → Mends m due x y triple.low triple.first triple.second low → Mends m due y z triple.high triple.third triple.fourth high → Mends m due z v triple.middle low high out → (out ≡ Some t.middle.place) × Rebuilt m due x v t
  rebuilt z v low high out mends₁ mends₂ mends₃ =
      let w₁ = first_wrote low mends₁ in
      let w₂ = second_wrote z high w₁.1 mends₂ in
      let i = t.middle.place in
      let j = t.low.place in
      let h = t.high.place in
      let ui = apart i in
      let uj = apart j in
      let uh = apart h in
      let one_i = here_same i in
      let one_j = here_same j in
      let one_h = here_same h in
      let long₁ = w₁.1.long in
      let long₂ = w₂.1.long in
      let within = st.rows.1 in
      let p = w₁.1.stored in
      let s = w₂.1.stored in
      let front = row_over t.first t.low p t.second in
      let back = row_over t.third t.high s t.fourth in
      let hj : here h j ≡ 0 = here_other h j (λ e. let w : here j h ≡ here j j = ap (here j) e in omega arith) in
      let ij : here i j ≡ 0 = here_other i j (λ e. let w : here j i ≡ here j j = ap (here j) e in omega arith) in
      let ih : here i h ≡ 0 = here_other i h (λ e. let w : here h i ≡ here h h = ap (here h) e in omega arith) in
      let mends' : Mends m due z v t.middle low high out = subst (λ (w : Triple). Mends m due z v w.middle low high out) is mends₃ in
      let w₃ = mend_wrote z v t.middle low high out front back mends' (w₂.1.keeps front (omega arith) w₁.1.stands) w₂.1.stands w₁.0 w₂.0 (omega arith, omega arith) (omega arith) (omega arith) (omega arith) in
      let q = w₃.1.stored in
      let u = shape t p q s in (
        w₃.0,
        record {
          low_stored = p;
          middle_stored = q;
          high_stored = s;
          truth = λ d all. w₃.1.fresh d (w₁.1.fresh d all.0 all.1) (w₂.1.fresh d all.2 all.3);
          written = record {
            stands = w₃.1.stands;
            kept = λ q none. w₃.1.other q (apart_places u q i none (omega arith)) ∙ w₂.1.other q (apart_places u q h none (omega arith)) ∙ w₁.1.other q (apart_places u q j none (omega arith));
            long = w₃.1.long ∙ long₂ ∙ long₁;
          };
        },
      )

module _ {E : Type 0} (m : Meaning E) (due : Type 0) (x y : List (Cell E)) (triple : Triple) where
  pub restructure_no_low : (v : List (Cell E)) (out : Option ℕ) → Mends m due x y triple.low triple.first triple.second None → Restructures m due x v triple out
  restructure_no_low v out mends t is st apart roomy = absurd (none-some (first_wrote x y triple t is st apart roomy None mends).0)

  pub restructure_no_high : (z v : List (Cell E)) (low out : Option ℕ) → Mends m due x y triple.low triple.first triple.second low → Mends m due y z triple.high triple.third triple.fourth None → Restructures m due x v triple out
  restructure_no_high z v low out mends₁ mends₂ t is st apart roomy = absurd (none-some (second_wrote x y triple t is st apart roomy z None (first_wrote x y triple t is st apart roomy low mends₁).1 mends₂).0)

  pub restructured : (z v : List (Cell E)) (low high out : Option ℕ) → Mends m due x y triple.low triple.first triple.second low → Mends m due y z triple.high triple.third triple.fourth high → Mends m due z v triple.middle low high out → Restructures m due x v triple out
  restructured z v low high out mends₁ mends₂ mends₃ t is st apart roomy = rebuilt x y triple t is st apart roomy z v low high out mends₁ mends₂ mends₃

-- a plan that was made
planned_as : {E : Type 0} (x : List (Cell E)) (row : Row) (a b : Option ℕ) (how : Plan) → Plans x row a b (Some how) → (l r : Tree E) → Stands x l → Stands x r → a ≡ link l → b ≡ link r → Planned x l row r how
planned_as x row a b how plans l r sl sr ea eb = let d = plans l r sl sr ea eb in subst (λ (v : Plan). Planned x l row r v) (sym (some_one d.1)) d.2

module _ {E : Type 0} (m : Meaning E) (due : Type 0) (x y : List (Cell E)) (row : Row) (a b out : Option ℕ) where
  pub join_straight : (how : Plan) → how ≡ Straight → Plans x row a b (Some how) → Mends m due x y row a b out → Joins m due x y row a b out
  join_straight how is plans mends l r sl sr ea eb apart room within =
      let even : Even l r = subst (λ (v : Plan). Planned x l row r v) is (planned_as x row a b how plans l r sl sr ea eb) in
      let i = row.place in
      let u = apart i in
      let one = here_same i in
      let w = mend_wrote x y row a b out l r mends sl sr ea eb room within (omega arith) (omega arith) in
      let t = row_over l row w.1.stored r in (
        t,
        w.0,
        record {
          shaped = record {
            same_rows = refl;
            wide = refl;
            high = omega arith;
            places = λ q. refl;
            even = λ e. refl;
            balance = λ bl br near near'. ((even, bl, br), omega arith);
          };
          truth = w.1.fresh;
          written = record { stands = w.1.stands; kept = λ q none. w.1.other q (apart_places t q i none (omega arith)); long = w.1.long };
        },
      )

  pub join_restructured : (how : Plan) (triple : Triple) → how ≡ Restructured triple → Plans x row a b (Some how) → Restructures m due x y triple out → Joins m due x y row a b out
  join_restructured how triple is plans built l r sl sr ea eb apart room within =
      let d : Planned x l row r (Restructured triple) = subst (λ (v : Plan). Planned x l row r v) is (planned_as x row a b how plans l r sl sr ea eb) in
      let t = d.0 in
      let picked = d.2 in
      let w = built t d.1 (picked.standing within) (λ q. let e = picked.places q in let h = apart q in omega arith) (picked.roomy room) in
      let made = w.1 in (
        shape t made.low_stored made.middle_stored made.high_stored,
        w.0,
        record {
          shaped = picked.shaped made.low_stored made.middle_stored made.high_stored;
          truth = λ h tl tr. made.truth h (picked.truth m tl tr);
          written = made.written;
        },
      )
