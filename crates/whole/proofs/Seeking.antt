-- The walk down to the row of a rank.
use Rattle.std.proofs.Common.{◌≡◌, ℕ, ◌+◌, ◌-◌, ◌<◌, ◌≤◌, max, ◌≢◌, List, Some, None, Option, sym, refl, ap, ◌∙◌, subst, inl, inr, arith}
use Rattle.std.specs.List.{slice_get}
use Rattle.rows.specs.declared.kind.Kind.{Kind}
use Rattle.cells.specs.declared.cell.Cell.{Cell}
use Rattle.cells.specs.Trees.{Tree, leaf, node, link, height, size, Stands, cell}
use Rattle.cells.specs.Rooted.{Rooted, SizeAt}
use Rattle.cells.proofs.Lookup.{some_one, none-some}
use Rattle.whole.specs.Ranks.{Ranked}

-- how far the walk to the nth row of t has come
pub record Seeking {E : Type 0} (x : List (Cell E)) (t : Tree E) (n : ℕ) (at : Option ℕ) (rest depth : ℕ) : Type 0 where
  pub sub : Tree E
  pub here : at ≡ link sub
  pub stands : Stands x sub
  pub any : 0 < rest
  pub within : rest ≤ size sub
  pub low : height sub + depth ≤ 24
  pub back : (j : ℕ) → Ranked sub rest j → Ranked t n j

pub seeking_at : {E : Type 0} {x : List (Cell E)} {t : Tree E} {n : ℕ} {at at' : Option ℕ} {rest depth : ℕ} → Seeking x t n at rest depth → at ≡ at' → Seeking x t n at' rest depth
seeking_at {x = x} {t = t} {n = n} {rest = rest} {depth = depth} g e = subst (λ (a : Option ℕ). Seeking x t n a rest depth) e g

module _ {E : Type 0} (x : List (Cell E)) (t : Tree E) (n : ℕ) where
  pub seeking_start : (root : Option ℕ) → Rooted x root t → 0 < n → n ≤ size t → Seeking x t n root n 0
  seeking_start root h a w = let low = h.low in record { sub = t; here = h.top; stands = h.stands; any = a; within = w; low = omega arith; back = λ j z. z }

  module _ (rest depth : ℕ) where
    no_none_at : (sub : Tree E) → None ≡ link sub → 0 < rest → rest ≤ size sub → ⊥
    no_none_at leaf e a h = omega arith
    no_none_at (node l i k p r) e a h = let z : ◌≡◌ {A = ℕ} 0 1 = cc in omega arith

    pub no_none : Seeking x t n None rest depth → ⊥
    no_none g = no_none_at g.sub g.here g.any g.within

    no_deeper_at : (sub : Tree E) → height sub + depth ≤ 24 → 24 ≤ depth → 0 < rest → rest ≤ size sub → ⊥
    no_deeper_at leaf low d a h = omega arith
    no_deeper_at (node l i k p r) low d a h = omega arith

    pub no_deeper : (at : Option ℕ) → Seeking x t n at rest depth → 24 ≤ depth → ⊥
    no_deeper at g d = no_deeper_at g.sub g.low d g.any g.within

    module _ (i : ℕ) where
      no_cell_at : (sub : Tree E) → Some i ≡ link sub → Stands x sub → None ≡ slice_get x i → ⊥
      no_cell_at leaf e s h = let z : ◌≡◌ {A = ℕ} 0 1 = cc in omega arith
      no_cell_at (node l j k p r) e s h = none-some (h ∙ ap (slice_get x) (some_one e) ∙ s.0)

      pub no_cell : Seeking x t n (Some i) rest depth → None ≡ slice_get x i → ⊥
      no_cell g h = no_cell_at g.sub g.here g.stands h

      module _ (c : Cell E) where
        -- at a place, the subtree is a node, and the cell is its cell
        pub record Opened : Type 0 where
          pub l : Tree E
          pub k : Kind
          pub p : E
          pub r : Tree E
          pub is : c ≡ cell l k p r
          pub stands_l : Stands x l
          pub stands_r : Stands x r
          pub within : rest ≤ size l + size r + 1
          pub low : max (height l) (height r) + 1 + depth ≤ 24
          pub back : (j : ℕ) → Ranked (node l i k p r) rest j → Ranked t n j

        opened_at : (sub : Tree E) → Some i ≡ link sub → Stands x sub → rest ≤ size sub → height sub + depth ≤ 24 → ((j : ℕ) → Ranked sub rest j → Ranked t n j) → Some c ≡ slice_get x i → Opened
        opened_at leaf e s h low b rd = let z : ◌≡◌ {A = ℕ} 0 1 = cc in absurd (omega arith)
        opened_at (node l j k p r) e s h low b rd =
            let ji : i ≡ j = some_one e in
            record { l = l; k = k; p = p; r = r; is = some_one (rd ∙ ap (slice_get x) ji ∙ s.0); stands_l = s.1; stands_r = s.2; within = h; low = low; back = subst (λ (v : ℕ). (q : ℕ) → Ranked (node l v k p r) rest q → Ranked t n q) (sym ji) b }

        module _ (g : Seeking x t n (Some i) rest depth) (rd : Some c ≡ slice_get x i) where
          pub opened : Opened
          opened = opened_at g.sub g.here g.stands g.within g.low g.back rd

          pub found : rest ≡ c.size → Ranked t n i
          found e =
              let o = opened in
              let es : c.size ≡ size o.l + size o.r + 1 = ap (λ (v : Cell E). v.size) o.is in
              o.back i (inr (inr (omega arith, refl)))

          pub no_size : SizeAt x c.left None → ⊥
          no_size sz =
              let o = opened in
              none-some (sz o.l o.stands_l (ap (λ (v : Cell E). v.left) o.is))

          module _ (b : ℕ) (sz : SizeAt x c.left (Some b)) (ne : rest ≢ c.size) where
            pub seeking_left : rest ≤ b → Seeking x t n c.left rest (depth + 1)
            seeking_left lt =
                let o = opened in
                let e : b ≡ size o.l = some_one (sz o.l o.stands_l (ap (λ (v : Cell E). v.left) o.is)) in
                let ol = o.low in
                record { sub = o.l; here = ap (λ (v : Cell E). v.left) o.is; stands = o.stands_l; any = g.any; within = omega arith; low = omega arith; back = λ j z. o.back j (inl (omega arith, z)) }

            pub seeking_right : b < rest → Seeking x t n c.right (rest - b) (depth + 1)
            seeking_right lt =
                let o = opened in
                let e : b ≡ size o.l = some_one (sz o.l o.stands_l (ap (λ (v : Cell E). v.left) o.is)) in
                let es : c.size ≡ size o.l + size o.r + 1 = ap (λ (v : Cell E). v.size) o.is in
                let ol = o.low in
                let ow = o.within in
                let le : rest ≤ size o.l + size o.r = omega arith in
                record { sub = o.r; here = ap (λ (v : Cell E). v.right) o.is; stands = o.stands_r; any = omega arith; within = omega arith; low = omega arith; back = λ j z. o.back j (inr (inl (omega arith, le, subst (λ (v : ℕ). Ranked o.r (rest - v) j) e z))) }

abbrev pub SeekingAll : {E : Type 0} → List (Cell E) → Option ℕ → ℕ → Option ℕ → ℕ → ℕ → Type 0
SeekingAll {E} x root n at rest depth = (t : Tree E) → Rooted x root t → 0 < n → n ≤ size t → Seeking x t n at rest depth
