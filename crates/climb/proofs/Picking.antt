-- The three rows that were read where a side is too high.
use Rattle.std.proofs.Common.{◌≡◌, ℕ, ◌+◌, ◌<◌, ◌≤◌, List, Some, None, Option, sym, refl, ap, ◌∙◌, subst, arith}
use Rattle.rows.specs.declared.kind.Kind.{Kind}
use Rattle.cells.specs.declared.cell.Cell.{Cell}
use Rattle.cells.specs.declared.links.Links.{Links}
use Rattle.cells.specs.declared.links.Side.{Side}
use Rattle.cells.specs.declared.links.Side.TheVariants.{Left, Right}
use Rattle.cells.specs.declared.mend.Row.{Row}
use Rattle.cells.specs.Sides.{other, at}
use Rattle.cells.specs.Trees.{Tree, leaf, node, link, height, Stands}
use Rattle.cells.proofs.Lookup.{some_one, none-some}
use Rattle.climb.specs.declared.plan.Branch.{Branch}
use Rattle.climb.specs.declared.plan.Node.{Node}
use Rattle.climb.specs.declared.plan.Plan.{Plan}
use Rattle.climb.specs.declared.plan.Plan.TheVariants.{Restructured}
use Rattle.climb.specs.declared.plan.Triple.{Triple}
use Rattle.climb.specs.Triples.{HeightAt, opened, Opens, left_outer, left_inner, right_inner, right_outer, branch, outer, inner, triple_of}
use Rattle.climb.specs.Plans.{Picks, PicksLeft, PicksRight, PicksAt, Plans}
use Rattle.climb.proofs.Shapes.{parts-left_outer, parts-left_inner, parts-right_inner, parts-right_outer, picked_left_outer, picked_left_inner, picked_right_inner, picked_right_outer}

-- a tree whose root was read, and which leans to its left
record LeansLeft {E : Type 0} (x : List (Cell E)) (child : Node) (t : Tree E) : Type 0 where
  a : Tree E
  g : ℕ
  kg : Kind
  pg : E
  b : Tree E
  j : ℕ
  kj : Kind
  pj : E
  c : Tree E
  is : t ≡ node (node a g kg pg b) j kj pj c
  child_is : child ≡ opened (node a g kg pg b) j kj c
  stands : Stands x (node (node a g kg pg b) j kj pj c)

-- and one which leans to its right
record LeansRight {E : Type 0} (x : List (Cell E)) (child : Node) (t : Tree E) : Type 0 where
  a : Tree E
  j : ℕ
  kj : Kind
  pj : E
  b : Tree E
  g : ℕ
  kg : Kind
  pg : E
  c : Tree E
  is : t ≡ node a j kj pj (node b g kg pg c)
  child_is : child ≡ opened a j kj (node b g kg pg c)
  stands : Stands x (node a j kj pj (node b g kg pg c))

module _ {E : Type 0} (x : List (Cell E)) (at : Option ℕ) (child : Node) (o : Opens x at (Some child)) where
  leans_left : child.right.height ≤ child.left.height → (t : Tree E) → Stands x t → at ≡ link t → 1 < height t → LeansLeft x child t
  leans_left lean leaf s e tall = absurd (omega arith)
  leans_left lean (node leaf j kj pj c) s e tall =
      let h : height c ≤ 0 = subst (λ (v : Node). v.right.height ≤ v.left.height) (some_one (o leaf j kj pj c s e)) lean in
      absurd (omega arith)
  leans_left lean (node (node a g kg pg b) j kj pj c) s e tall =
      record { a = a; g = g; kg = kg; pg = pg; b = b; j = j; kj = kj; pj = pj; c = c; is = refl; child_is = some_one (o (node a g kg pg b) j kj pj c s e); stands = s }

  leans_right : child.left.height ≤ child.right.height → (t : Tree E) → Stands x t → at ≡ link t → 1 < height t → LeansRight x child t
  leans_right lean leaf s e tall = absurd (omega arith)
  leans_right lean (node a j kj pj leaf) s e tall =
      let h : height a ≤ 0 = subst (λ (v : Node). v.left.height ≤ v.right.height) (some_one (o a j kj pj leaf s e)) lean in
      absurd (omega arith)
  leans_right lean (node a j kj pj (node b g kg pg c)) s e tall =
      record { a = a; j = j; kj = kj; pj = pj; b = b; g = g; kg = kg; pg = pg; c = c; is = refl; child_is = some_one (o a j kj pj (node b g kg pg c) s e); stands = s }

-- the root was read
no_root : {E : Type 0} (x : List (Cell E)) (at : Option ℕ) → Opens x at None → (t : Tree E) → Stands x t → at ≡ link t → 0 < height t → ⊥
no_root x at o leaf s e tall = omega arith
no_root x at o (node l i k p r) s e tall = none-some (o l i k p r s e)

plan_same : {A B C : Type 0} (f : A → B → C → Triple) {a a' : A} {b b' : B} {c c' : C} → a ≡ a' → b ≡ b' → c ≡ c' → Some (Restructured (f a b c)) ≡ Some (Restructured (f a' b' c'))
plan_same f p q r = cc

-- the heights of two branches that were taken by side
leaning : (a b outside inside : Branch) → outside ≡ a → inside ≡ b → inside.height ≤ outside.height → b.height ≤ a.height
leaning a b outside inside eo ei lean = let ho = ap (λ (v : Branch). v.height) eo in let hi = ap (λ (v : Branch). v.height) ei in omega arith

leaning_in : (a b outside inside : Branch) → outside ≡ a → inside ≡ b → outside.height < inside.height → a.height < b.height
leaning_in a b outside inside eo ei lean = let ho = ap (λ (v : Branch). v.height) eo in let hi = ap (λ (v : Branch). v.height) ei in omega arith

module _ {E : Type 0} (x : List (Cell E)) (row : Row) (a b : Option ℕ) where
  left_no_child : (out : Option Plan) → Opens x a None → PicksLeft x row a b out
  left_no_child out o l r sl sr ea eb tall = absurd (no_root x a o l sl ea (omega arith))

  right_no_child : (out : Option Plan) → Opens x b None → PicksRight x row a b out
  right_no_child out o l r sl sr ea eb tall = absurd (no_root x b o r sr eb (omega arith))

  module _ (child : Node) where
    left_no_outer : (out : Option Plan) → Opens x a (Some child) → child.right.height ≤ child.left.height → Opens x child.left.link None → PicksLeft x row a b out
    left_no_outer out o lean o' l r sl sr ea eb tall =
        let v = leans_left x a child o lean l sl ea (omega arith) in
        absurd (none-some (o' v.a v.g v.kg v.pg v.b v.stands.1 (ap (λ (n : Node). n.left.link) v.child_is)))

    left_no_inner : (out : Option Plan) → Opens x a (Some child) → child.left.height < child.right.height → Opens x child.right.link None → PicksLeft x row a b out
    left_no_inner out o lean o' l r sl sr ea eb tall =
        let v = leans_right x a child o (omega arith) l sl ea (omega arith) in
        absurd (none-some (o' v.b v.g v.kg v.pg v.c v.stands.2 (ap (λ (n : Node). n.right.link) v.child_is)))

    right_no_inner : (out : Option Plan) → Opens x b (Some child) → child.right.height < child.left.height → Opens x child.left.link None → PicksRight x row a b out
    right_no_inner out o lean o' l r sl sr ea eb tall =
        let v = leans_left x b child o (omega arith) r sr eb (omega arith) in
        absurd (none-some (o' v.a v.g v.kg v.pg v.b v.stands.1 (ap (λ (n : Node). n.left.link) v.child_is)))

    right_no_outer : (out : Option Plan) → Opens x b (Some child) → child.left.height ≤ child.right.height → Opens x child.right.link None → PicksRight x row a b out
    right_no_outer out o lean o' l r sl sr ea eb tall =
        let v = leans_right x b child o lean r sr eb (omega arith) in
        absurd (none-some (o' v.b v.g v.kg v.pg v.c v.stands.2 (ap (λ (n : Node). n.right.link) v.child_is)))

    module _ (deep : Node) where
      left_by_outer : Opens x a (Some child) → child.right.height ≤ child.left.height → Opens x child.left.link (Some deep) → (made : Triple) → made ≡ left_outer child deep row b → PicksLeft x row a b (Some (Restructured made))
      left_by_outer o lean o' made is l r sl sr ea eb tall =
          let v = leans_left x a child o lean l sl ea (omega arith) in
          let e = v.child_is in
          let e' : deep ≡ opened v.a v.g v.kg v.b = some_one (o' v.a v.g v.kg v.pg v.b v.stands.1 (ap (λ (n : Node). n.left.link) e)) in
          subst (λ t. Picks x t row r (Some (Restructured made))) (sym v.is) (
            parts-left_outer x row r v.a v.b v.c v.j v.kj v.pj v.g v.kg v.pg,
            ap (λ v. Some (Restructured v)) is ∙ plan_same (λ n n' at. left_outer n n' row at) e e' eb,
            picked_left_outer x row r v.a v.b v.c v.j v.kj v.pj v.g v.kg v.pg v.stands sr (subst (λ t. height r + 1 < height t) v.is tall) (subst (λ (n : Node). n.right.height ≤ n.left.height) e lean),
          )

      left_by_inner : Opens x a (Some child) → child.left.height < child.right.height → Opens x child.right.link (Some deep) → (made : Triple) → made ≡ left_inner child deep row b → PicksLeft x row a b (Some (Restructured made))
      left_by_inner o lean o' made is l r sl sr ea eb tall =
          let v = leans_right x a child o (omega arith) l sl ea (omega arith) in
          let e = v.child_is in
          let e' : deep ≡ opened v.b v.g v.kg v.c = some_one (o' v.b v.g v.kg v.pg v.c v.stands.2 (ap (λ (n : Node). n.right.link) e)) in
          subst (λ t. Picks x t row r (Some (Restructured made))) (sym v.is) (
            parts-left_inner x row r v.a v.b v.c v.j v.kj v.pj v.g v.kg v.pg,
            ap (λ v. Some (Restructured v)) is ∙ plan_same (λ n n' at. left_inner n n' row at) e e' eb,
            picked_left_inner x row r v.a v.b v.c v.j v.kj v.pj v.g v.kg v.pg v.stands sr (subst (λ t. height r + 1 < height t) v.is tall) (subst (λ (n : Node). n.left.height < n.right.height) e lean),
          )

      right_by_inner : Opens x b (Some child) → child.right.height < child.left.height → Opens x child.left.link (Some deep) → (made : Triple) → made ≡ right_inner child deep row a → PicksRight x row a b (Some (Restructured made))
      right_by_inner o lean o' made is l r sl sr ea eb tall =
          let v = leans_left x b child o (omega arith) r sr eb (omega arith) in
          let e = v.child_is in
          let e' : deep ≡ opened v.a v.g v.kg v.b = some_one (o' v.a v.g v.kg v.pg v.b v.stands.1 (ap (λ (n : Node). n.left.link) e)) in
          subst (λ t. Picks x l row t (Some (Restructured made))) (sym v.is) (
            parts-right_inner x row l v.a v.b v.c v.j v.kj v.pj v.g v.kg v.pg,
            ap (λ v. Some (Restructured v)) is ∙ plan_same (λ n n' at. right_inner n n' row at) e e' ea,
            picked_right_inner x row l v.a v.b v.c v.j v.kj v.pj v.g v.kg v.pg v.stands sl (subst (λ t. height l + 1 < height t) v.is tall) (subst (λ (n : Node). n.right.height < n.left.height) e lean),
          )

      right_by_outer : Opens x b (Some child) → child.left.height ≤ child.right.height → Opens x child.right.link (Some deep) → (made : Triple) → made ≡ right_outer child deep row a → PicksRight x row a b (Some (Restructured made))
      right_by_outer o lean o' made is l r sl sr ea eb tall =
          let v = leans_right x b child o lean r sr eb (omega arith) in
          let e = v.child_is in
          let e' : deep ≡ opened v.b v.g v.kg v.c = some_one (o' v.b v.g v.kg v.pg v.c v.stands.2 (ap (λ (n : Node). n.right.link) e)) in
          subst (λ t. Picks x l row t (Some (Restructured made))) (sym v.is) (
            parts-right_outer x row l v.a v.b v.c v.j v.kj v.pj v.g v.kg v.pg,
            ap (λ v. Some (Restructured v)) is ∙ plan_same (λ n n' at. right_outer n n' row at) e e' ea,
            picked_right_outer x row l v.a v.b v.c v.j v.kj v.pj v.g v.kg v.pg v.stands sl (subst (λ t. height l + 1 < height t) v.is tall) (subst (λ (n : Node). n.left.height ≤ n.right.height) e lean),
          )

-- by the side that is too high: `near` is the link of that side, and `far` the other
module _ {E : Type 0} (x : List (Cell E)) (row : Row) (links : Links) (near far : Option ℕ) where
  pub no_child : (side : Side) (out : Option Plan) → near ≡ at links side → Opens x near None → PicksAt side x row links.left links.right out
  no_child Left out e o = left_no_child x row links.left links.right out (subst (λ v. Opens x v None) e o)
  no_child Right out e o = right_no_child x row links.left links.right out (subst (λ v. Opens x v None) e o)

  module _ (child : Node) (outside inside : Branch) where
    pub no_outer : (side : Side) (out : Option Plan) → near ≡ at links side → Opens x near (Some child) → outside ≡ branch child side → inside ≡ branch child (other side) → inside.height ≤ outside.height → Opens x outside.link None → PicksAt side x row links.left links.right out
    no_outer Left out e o eo ei lean o' = left_no_outer x row links.left links.right child out (subst (λ v. Opens x v (Some child)) e o) (leaning child.left child.right outside inside eo ei lean) (subst (λ (v : Branch). Opens x v.link None) eo o')
    no_outer Right out e o eo ei lean o' = right_no_outer x row links.left links.right child out (subst (λ v. Opens x v (Some child)) e o) (leaning child.right child.left outside inside eo ei lean) (subst (λ (v : Branch). Opens x v.link None) eo o')

    pub no_inner : (side : Side) (out : Option Plan) → near ≡ at links side → Opens x near (Some child) → outside ≡ branch child side → inside ≡ branch child (other side) → outside.height < inside.height → Opens x inside.link None → PicksAt side x row links.left links.right out
    no_inner Left out e o eo ei lean o' = left_no_inner x row links.left links.right child out (subst (λ v. Opens x v (Some child)) e o) (leaning_in child.left child.right outside inside eo ei lean) (subst (λ (v : Branch). Opens x v.link None) ei o')
    no_inner Right out e o eo ei lean o' = right_no_inner x row links.left links.right child out (subst (λ v. Opens x v (Some child)) e o) (leaning_in child.right child.left outside inside eo ei lean) (subst (λ (v : Branch). Opens x v.link None) ei o')

    module _ (deep : Node) (made : Triple) where
      pub by_outer : (side : Side) → near ≡ at links side → far ≡ at links (other side) → Opens x near (Some child) → outside ≡ branch child side → inside ≡ branch child (other side) → inside.height ≤ outside.height → Opens x outside.link (Some deep) → made ≡ outer side child deep row far → PicksAt side x row links.left links.right (Some (Restructured made))
      by_outer Left e ef o eo ei lean o' is = left_by_outer x row links.left links.right child deep (subst (λ v. Opens x v (Some child)) e o) (leaning child.left child.right outside inside eo ei lean) (subst (λ (v : Branch). Opens x v.link (Some deep)) eo o') made (is ∙ ap (left_outer child deep row) ef)
      by_outer Right e ef o eo ei lean o' is = right_by_outer x row links.left links.right child deep (subst (λ v. Opens x v (Some child)) e o) (leaning child.right child.left outside inside eo ei lean) (subst (λ (v : Branch). Opens x v.link (Some deep)) eo o') made (is ∙ ap (right_outer child deep row) ef)

      pub by_inner : (side : Side) → near ≡ at links side → far ≡ at links (other side) → Opens x near (Some child) → outside ≡ branch child side → inside ≡ branch child (other side) → outside.height < inside.height → Opens x inside.link (Some deep) → made ≡ inner side child deep row far → PicksAt side x row links.left links.right (Some (Restructured made))
      by_inner Left e ef o eo ei lean o' is = left_by_inner x row links.left links.right child deep (subst (λ v. Opens x v (Some child)) e o) (leaning_in child.left child.right outside inside eo ei lean) (subst (λ (v : Branch). Opens x v.link (Some deep)) ei o') made (is ∙ ap (left_inner child deep row) ef)
      by_inner Right e ef o eo ei lean o' is = right_by_inner x row links.left links.right child deep (subst (λ v. Opens x v (Some child)) e o) (leaning_in child.right child.left outside inside eo ei lean) (subst (λ (v : Branch). Opens x v.link (Some deep)) ei o') made (is ∙ ap (right_inner child deep row) ef)

module _ {E : Type 0} (x : List (Cell E)) (row : Row) (a b : Option ℕ) where
  -- which of the plans, by the heights that were read
  module _ (p q : ℕ) (left : HeightAt x a (Some p)) (right : HeightAt x b (Some q)) (out : Option Plan) where
    pub plans_left : q + 1 < p → PicksLeft x row a b out → Plans x row a b out
    plans_left h picks l r sl sr ea eb =
        let el : p ≡ height l = some_one (left l sl ea) in
        let er : q ≡ height r = some_one (right r sr eb) in
        let d = picks l r sl sr ea eb (omega arith) in
        (Restructured (triple_of d.0), d.1, (d.0, refl, d.2))

    pub plans_right : p + 1 < q → PicksRight x row a b out → Plans x row a b out
    plans_right h picks l r sl sr ea eb =
        let el : p ≡ height l = some_one (left l sl ea) in
        let er : q ≡ height r = some_one (right r sr eb) in
        let d = picks l r sl sr ea eb (omega arith) in
        (Restructured (triple_of d.0), d.1, (d.0, refl, d.2))
