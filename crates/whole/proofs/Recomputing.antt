-- A tree whose stored products are computed anew, rank by rank.
use Rattle.std.proofs.Common.{◌≡◌, ℕ, ◌+◌, ◌*◌, ◌<◌, ◌≤◌, ◌≢◌, List, length, Some, None, Option, sym, refl, ap, ◌∙◌, subst, arith}
use Rattle.std.specs.List.{slice_get}
use Rattle.monoid.specs.Meaning.{Meaning}
use Rattle.monoid.specs.Laws.{Lawful}
use Rattle.cells.specs.declared.cell.Cell.{Cell}
use Rattle.cells.specs.Trees.{Tree, size, count, cell, At, Stands, Distinct}
use Rattle.cells.specs.Rooted.{Rooted, SizeAt}
use Rattle.cells.specs.Counts.{Asked, Spent}
use Rattle.cells.proofs.Lookup.{some_one, none-some, nth_within, nth_set_same, nth_set_other}
use Rattle.cells.proofs.Frame.{stands_kept}
use Rattle.unused.proofs.Threading.{listed_kept}
use Rattle.whole.specs.Ranks.{Ranked, FindsRanked}
use Rattle.whole.specs.Renewing.{Refreshes, Alike, Done, Renewed, Renews, Recomputes, RecomputeCosts}
use Rattle.whole.proofs.Likeness.{alike_same, alike_then, common, balanced_alike, ranked_in, done_none, done_true, anew_is, true_sound}
use Rattle.whole.proofs.Turning.{turn}

module _ {E : Type 0} (m : Meaning E) (Orderly : Type 0) (x y : List (Cell E)) (root : Option ℕ) (n : ℕ) where
  pub renew_no_place : FindsRanked x root n None → (out : Option ℕ) → Renews m Orderly x y root n out
  renew_no_place finds out u d e h w ds = absurd (none-some (finds u w (omega arith) h).1)

  pub renewed : (i : ℕ) (out : Option ℕ) → FindsRanked x root n (Some i) → Refreshes m Orderly x y i out → Renews m Orderly x y root n out
  renewed i out finds refresh u d e h w ds =
      let f = finds u w (omega arith) h in
      let ranked : Ranked u n i = subst (λ (v : ℕ). Ranked u n v) (sym (some_one f.1)) f.2 in
      let t = turn m x u d i w.stands ds (subst (λ (v : ℕ). Ranked u v i) e ranked) in
      let g = refresh t.l t.k t.p t.r t.stands in
      let v : E = g.product in
      let c : Cell E = cell t.l t.k v t.r in
      let within : i < length x = nth_within x i (cell t.l t.k t.p t.r) t.stands.0 in
      let here_is : At y i c = ap (λ (z : List (Cell E)). slice_get z i) g.after ∙ nth_set_same x i c within in
      let others : (q : ℕ) → q ≢ i → slice_get y q ≡ slice_get x q = (λ q ne. ap (λ (z : List (Cell E)). slice_get z q) g.after ∙ nth_set_other x i q c ne) in
      record {
        place = i;
        given = g.given;
        next = t.next v;
        alike = t.alike v;
        stands = t.written v y here_is others;
        done = λ o before. subst (λ (z : ℕ). Done m z (t.next v)) (sym e) (t.done v (g.value o (t.sides before).0 (t.sides before).1) before);
        kept = λ q z. others q (λ eq. let b = ranked_in u n i ranked in let a : count q u ≡ count i u = ap (λ (v : ℕ). count v u) eq in omega arith);
      }

-- how far the recomputing of t has come
pub record Going {E : Type 0} (m : Meaning E) (Orderly : Type 0) (x₀ x : List (Cell E)) (root : Option ℕ) (t : Tree E) (d : ℕ) : Type 0 where
  pub now : Tree E
  pub alike : Alike t now
  pub stands : Stands x now
  pub done : Orderly → Done m d now
  pub kept : (q : ℕ) → count q t ≡ 0 → slice_get x q ≡ slice_get x₀ q

abbrev pub GoingAll : {E : Type 0} → Meaning E → Type 0 → List (Cell E) → List (Cell E) → Option ℕ → ℕ → Type 0
GoingAll {E} m Orderly x₀ x root d = (t : Tree E) → Rooted x₀ root t → Distinct t → Going m Orderly x₀ x root t d

-- cells that hold a tree alike hold it under the same root
rooted_alike : {E : Type 0} (x₀ x : List (Cell E)) (root : Option ℕ) (t u : Tree E) → Alike t u → Stands x u → Rooted x₀ root t → Rooted x root u
rooted_alike x₀ x root t u a s h =
    let c = common t u a in
    let high = c.heights in
    let low = h.low in
    record { stands = s; top = h.top ∙ sym c.links; low = omega arith }

pub no_size : {E : Type 0} (x : List (Cell E)) (root : Option ℕ) → SizeAt x root None → (t : Tree E) → Rooted x root t → Distinct t → ⊥
no_size x root sized t h ds = none-some (sized t h.stands h.top)

module _ {E : Type 0} (m : Meaning E) (Orderly : Type 0) (x₀ : List (Cell E)) (root : Option ℕ) where
  pub going_start : GoingAll m Orderly x₀ x₀ root 0
  going_start t h ds = record { now = t; alike = alike_same t; stands = h.stands; done = λ o. done_none m t 0 refl; kept = λ q z. refl }

  module _ (n : ℕ) (sized : SizeAt x₀ root (Some n)) where
    module _ (now : Meaning E) (Orderly' : Type 0) (same : now ≡ m) (order : Orderly → Orderly') (x y : List (Cell E)) (d : ℕ) (more : d < n) (inv : GoingAll m Orderly x₀ x root d) where
      step : (out : Option ℕ) → Renews now Orderly' x y root (d + 1) out → (t : Tree E) (h : Rooted x₀ root t) (ds : Distinct t) → Renewed m Orderly' x y d (d + 1) (inv t h ds).now out
      step out renews t h ds =
          let g = inv t h ds in
          let c = common t g.now g.alike in
          let wide = c.sizes in
          let many : n ≡ size t = some_one (sized t h.stands h.top) in
          subst (λ (v : Meaning E). Renews v Orderly' x y root (d + 1) out) same renews g.now d refl (omega arith) (rooted_alike x₀ x root t g.now g.alike g.stands h) (λ q. let a = c.counts q in let b = ds q in omega arith)

      pub going_no : Renews now Orderly' x y root (d + 1) None → (t : Tree E) → Rooted x₀ root t → Distinct t → ⊥
      going_no renews t h ds = none-some (step None renews t h ds).given

      pub going_more : (i : ℕ) → Renews now Orderly' x y root (d + 1) (Some i) → GoingAll m Orderly x₀ y root (d + 1)
      going_more i renews t h ds =
          let g = inv t h ds in
          let f = step (Some i) renews t h ds in
          let c = common t g.now g.alike in
          record { now = f.next; alike = alike_then t g.now f.next g.alike f.alike; stands = f.stands; done = λ o. f.done (order o) (g.done o); kept = λ q z. let a = c.counts q in f.kept q (omega arith) ∙ g.kept q z }

    pub going_done : (laws : Orderly → Lawful m) (x : List (Cell E)) (d : ℕ) → n ≤ d → GoingAll m Orderly x₀ x root d → Recomputes m Orderly x₀ x root (Some n)
    going_done laws x d all inv t h ds =
        let g = inv t h ds in
        let c = common t g.now g.alike in
        let wide = c.sizes in
        let many : n ≡ size t = some_one (sized t h.stands h.top) in
        record {
          given = ap Some many;
          next = g.now;
          alike = g.alike;
          word = c.words;
          counts = c.counts;
          balance = balanced_alike t g.now g.alike;
          rooted = rooted_alike x₀ x root t g.now g.alike g.stands h;
          value = λ o. anew_is m t g.now g.alike (done_true m g.now d (omega arith) (g.done o));
          truth = λ o. done_true m g.now d (omega arith) (g.done o);
          sound = λ o. true_sound m (laws o) g.now (done_true m g.now d (omega arith) (g.done o));
          others = λ v s apart. stands_kept x₀ x v (λ q lt. let a = apart q in g.kept q (omega arith)) s;
          unused = λ first is u apart. listed_kept x₀ x first is (λ q lt. let a = apart q in g.kept q (omega arith)) u;
          kept = g.kept;
        }

    pub costs_done : (before after : ℕ) → n ≤ 65535 → Asked (2 * n) before after → RecomputeCosts x₀ root before after
    costs_done before after few asked =
        record {
          exact = λ t h ds. let many : n ≡ size t = some_one (sized t h.stands h.top) in subst (λ (v : ℕ). Asked (2 * v) before after) many asked;
          always = (2 * n, omega arith, asked);
        }

  pub costs_refused : (before after : ℕ) → Spent (2 * 65535) before after → ((t : Tree E) → Rooted x₀ root t → Distinct t → ⊥) → RecomputeCosts x₀ root before after
  costs_refused before after spent never = record { exact = λ t h ds. absurd (never t h ds); always = spent }

  pub recompute_refused : (y : List (Cell E)) (out : Option ℕ) → ((t : Tree E) → Rooted x₀ root t → Distinct t → ⊥) → Recomputes m Orderly x₀ y root out
  recompute_refused y out never t h ds = absurd (never t h ds)
