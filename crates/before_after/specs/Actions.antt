-- The laws of the action of an element on indexes and on sets of pairs, by one text for both members.
use Rattle.std.specs.Prelude.{◌≡◌, ℕ, ◌+◌, ◌<◌, true}
use Rattle.std.proofs.Common.{sym, ap, ap₂, ◌∙◌, subst}
use Rattle.monoid.specs.Meaning.{Meaning}
use Rattle.monoid.specs.Laws.{Lawful}
use Rattle.monoid.specs.Small.{Small, Sized, Undone}
use Rattle.pairs.specs.declared.member.Member.{Member}
use Rattle.pairs.specs.declared.member.Member.TheVariants.{First, Second}
use Rattle.pairs.specs.declared.pair_set.PairSet.{PairSet}
use Rattle.pairs.specs.Pairs.{joined}
use Rattle.pairs.specs.Moved.{line_moved, moved}
use Rattle.pairs.proofs.Pairs.{Fits}
use Rattle.pairs.proofs.Moved.{In_by, moved_more, moved_still, moved_twice}
use Rattle.before_after.specs.Action.{product_on, action, acted}

module _ {E : Type 0} {m : Meaning E} (laws : Lawful m) where
  product_sound : (member : Member) (a x : E) → m.sound a ≡ true → m.sound x ≡ true → m.sound (product_on member m a x) ≡ true
  product_sound First a x sa sx = laws.sound_mul a x sa sx
  product_sound Second a x sa sx = laws.sound_mul x a sx sa

  product_unit : (member : Member) (x : E) → m.sound x ≡ true → product_on member m m.unit x ≡ x
  product_unit First x sx = laws.left x sx
  product_unit Second x sx = laws.right x sx

  product_assoc : (member : Member) (a b x : E) → m.sound a ≡ true → m.sound b ≡ true → m.sound x ≡ true → product_on member m (product_on member m a b) x ≡ product_on member m a (product_on member m b x)
  product_assoc First a b x sa sb sx = laws.assoc a b x sa sb sx
  product_assoc Second a b x sa sb sx = sym (laws.assoc x b a sx sb sa)

  module _ {n : Small E} (undone : Undone m n) (member : Member) where
    pub action_below : (a : E) → m.sound a ≡ true → (x : ℕ) → x < n.order → action member m n a x < n.order
    action_below a sa x hx = undone.index_below (product_on member m a (n.element x)) (product_sound member a (n.element x) sa (undone.element_sound x hx))

    -- an element's index is taken to the index of the product
    pub action_index : (a x : E) → m.sound x ≡ true → action member m n a (n.index x) ≡ n.index (product_on member m a x)
    action_index a x sx = ap (λ y. n.index (product_on member m a y)) (undone.there x sx)

    action_unit : (x : ℕ) → x < n.order → action member m n m.unit x ≡ x
    action_unit x hx = ap n.index (product_unit member (n.element x) (undone.element_sound x hx)) ∙ undone.back x hx

    action_both : (a b : E) → m.sound a ≡ true → m.sound b ≡ true → (x : ℕ) → x < n.order → action member m n (product_on member m a b) x ≡ action member m n a (action member m n b x)
    action_both a b sa sb x hx =
        let y = n.element x in
        let sy = undone.element_sound x hx in
        ap n.index (product_assoc member a b y sa sb sy) ∙ sym (action_index a (product_on member m b y) (product_sound member b y sb sy))

    pub acted_unit : (q : PairSet) → Fits q → ((x y : ℕ) → In_by member q x y → x < n.order) → acted member m n m.unit q ≡ q
    acted_unit q fits below = moved_still member n.order (action member m n m.unit) action_unit q fits below

    pub acted_both : Sized n → (a b : E) → m.sound a ≡ true → m.sound b ≡ true → (q : PairSet) → acted member m n (product_on member m a b) q ≡ acted member m n a (acted member m n b q)
    acted_both sized a b sa sb q =
        moved_twice member n.order (action member m n a) (action member m n b) (action member m n (product_on member m a b)) sized.few (action_below b sb) (action_both a b sa sb) q

-- what is asked of a recogniser that means m, with the indexes n, by now
pub action_told : {E : Type 0} {m v : Meaning E} {n u : Small E} → v ≡ m → u ≡ n → (member : Member) (a : E) (i r : ℕ) → (v.sound a ≡ true → i < u.order → r ≡ action member v u a i) → m.sound a ≡ true → i < n.order → r ≡ action member m n a i
action_told {E} {m} {v} {n} {u} e f member a i r told =
    subst (λ (w : Meaning E). w.sound a ≡ true → i < n.order → r ≡ action member w n a i) e
    (subst (λ (w : Small E). v.sound a ≡ true → i < w.order → r ≡ action member v w a i) f told)

-- one line more
pub moved_step : (member : Member) (f : ℕ → ℕ) (i to : ℕ) (q taken line next : PairSet) → taken ≡ moved member i f q → to ≡ f i → line ≡ line_moved member i to q → next ≡ joined taken line → next ≡ moved member (i + 1) f q
moved_step member f i to q taken line next taken_is to_is line_is next_is =
    next_is ∙ ap₂ joined taken_is (line_is ∙ ap (λ t. line_moved member i t q) to_is) ∙ moved_more member i f q

-- all lines
pub moved_all : (member : Member) (f : ℕ → ℕ) (i n : ℕ) (q taken : PairSet) → i ≡ n → taken ≡ moved member i f q → taken ≡ moved member n f q
moved_all member f i n q taken end is = is ∙ ap (λ k. moved member k f q) end
