-- Before-and-after keeps the laws of the two recognisers below it, and answers by their answers.
use Rattle.std.specs.Prelude.{◌≡◌, Bool, true, false, cond, ◌&&◌, List}
use Rattle.std.proofs.Common.{sym, ap, ap₂, ◌∙◌}
use Rattle.std.proofs.lemmas.Bool.{and_parts, and_from}
use Rattle.monoid.specs.Meaning.{Meaning}
use Rattle.monoid.specs.Laws.{Lawful}
use Rattle.monoid.specs.Small.{Small, Sized, Undone}
use Rattle.monoid.proofs.Words.{product_told}
use Rattle.pairs.specs.declared.member.Member.TheVariants.{First, Second}
use Rattle.pairs.specs.declared.pair_set.PairSet.{PairSet}
use Rattle.pairs.specs.Pairs.{none, only, joined, within}
use Rattle.pairs.proofs.Pairs.{joined_assoc, none-joined, joined-none, within-fits, within-out, within_none, within_only, within-joined}
use Rattle.pairs.proofs.Moved.{moved_none, moved-joined, moved-across, within_first, within_second}
use Rattle.before_after.specs.declared.split.Split.{Split}
use Rattle.before_after.specs.Action.{action, acted}
use Rattle.before_after.specs.BeforeAfter.{marked, before_and_after}
use Rattle.before_after.specs.Actions.{action_below, acted_unit, acted_both}

split_is : {E F : Type 0} {a a' : E} {q q' : PairSet} {b b' : F} → a ≡ a' → q ≡ q' → b ≡ b' → ◌≡◌ {A = Split E F} (record { before = a; pairs = q; after = b }) (record { before = a'; pairs = q'; after = b' })
split_is {E} {F} {a} {a'} {q} {q'} {b} {b'} a_is q_is b_is = cc

module _ {E F : Type 0} (m : Meaning E) (n : Small E) (m' : Meaning F) (n' : Small F) where
  -- a sound element, part by part
  pub record Sound (x : Split E F) : Type 0 where
    pub before : m.sound x.before ≡ true
    pub after : m'.sound x.after ≡ true
    pub pairs : within n.order n'.order x.pairs ≡ true

  module _ (marks : List Bool) (x : Split E F) where
    pub sound_out : (before_and_after m n m' n' marks).sound x ≡ true → Sound x
    sound_out s =
        let whole = and_parts (m.sound x.before && m'.sound x.after) (within n.order n'.order x.pairs) s in
        let sides = and_parts (m.sound x.before) (m'.sound x.after) whole.0 in
        record { before = sides.0; after = sides.1; pairs = whole.1 }

    sound_in : Sound x → (before_and_after m n m' n' marks).sound x ≡ true
    sound_in s = and_from (m.sound x.before && m'.sound x.after) (within n.order n'.order x.pairs) (and_from (m.sound x.before) (m'.sound x.after) s.before s.after) s.pairs

module _ {E F : Type 0} {m : Meaning E} {n : Small E} {m' : Meaning F} {n' : Small F}
    (laws : Lawful m) (undone : Undone m n) (sized : Sized n)
    (laws' : Lawful m') (undone' : Undone m' n') (sized' : Sized n') where
  -- the pairs of a product of three
  pairs_assoc : (x y z : Split E F) → Sound m n m' n' x → Sound m n m' n' y → Sound m n m' n' z
      → joined (acted First m n (m.mul x.before y.before) z.pairs) (acted Second m' n' z.after (joined (acted First m n x.before y.pairs) (acted Second m' n' y.after x.pairs)))
      ≡ joined (acted First m n x.before (joined (acted First m n y.before z.pairs) (acted Second m' n' z.after y.pairs))) (acted Second m' n' (m'.mul y.after z.after) x.pairs)
  pairs_assoc x y z sx sy sz =
      let first : E → PairSet → PairSet = acted First m n in
      let second : F → PairSet → PairSet = acted Second m' n' in
      let a = x.before in
      let c = z.after in
      let p = first a (first y.before z.pairs) in
      let q = first a (second c y.pairs) in
      let r = second (m'.mul y.after c) x.pairs in
      ap₂ joined
      (acted_both laws undone First sized a y.before sx.before sy.before z.pairs)
      (moved-joined Second n'.order (action Second m' n' c) (first a y.pairs) (second y.after x.pairs)
      ∙ ap₂ joined
      (sym (moved-across n.order n'.order (action First m n a) (action Second m' n' c) y.pairs))
      (sym (acted_both laws' undone' Second sized' c y.after sz.after sy.after x.pairs)))
      ∙ sym (joined_assoc p q r)
      ∙ ap (λ s. joined s r) (sym (moved-joined First n.order (action First m n a) (first y.before z.pairs) (second c y.pairs)))

  unit_pairs : (b : F) (q : PairSet) → within n.order n'.order q ≡ true → joined (acted First m n m.unit q) (acted Second m' n' b none) ≡ q
  unit_pairs b q w =
      let fits = within-fits n.order n'.order q w in
      ap₂ joined (acted_unit laws undone First q fits (λ x y e. (within-out n.order n'.order q w x y e).0)) (moved_none Second n'.order (action Second m' n' b))
      ∙ joined-none q fits

  pairs_unit : (a : E) (q : PairSet) → within n.order n'.order q ≡ true → joined (acted First m n a none) (acted Second m' n' m'.unit q) ≡ q
  pairs_unit a q w =
      let fits = within-fits n.order n'.order q w in
      ap₂ joined (moved_none First n.order (action First m n a)) (acted_unit laws' undone' Second q fits (λ y x e. (within-out n.order n'.order q w x y e).1))
      ∙ none-joined q fits

  pairs_within : (a : E) (b : F) (q r : PairSet) → m.sound a ≡ true → m'.sound b ≡ true → within n.order n'.order q ≡ true → within n.order n'.order r ≡ true → within n.order n'.order (joined (acted First m n a r) (acted Second m' n' b q)) ≡ true
  pairs_within a b q r sa sb wq wr =
      within-joined n.order n'.order (acted First m n a r) (acted Second m' n' b q)
      (within_first n.order n'.order (action First m n a) (action_below laws undone First a sa) r wr)
      (within_second n.order n'.order (action Second m' n' b) (action_below laws' undone' Second b sb) q wq)

  marked-within : (b : Bool) → within n.order n'.order (cond b (only (n.index m.unit) (n'.index m'.unit)) none) ≡ true
  marked-within true = within_only n.order n'.order (n.index m.unit) (n'.index m'.unit) (undone.index_below m.unit laws.sound_unit) (undone'.index_below m'.unit laws'.sound_unit)
  marked-within false = within_none n.order n'.order

  module _ (marks : List Bool) where
    out : (x : Split E F) → (before_and_after m n m' n' marks).sound x ≡ true → Sound m n m' n' x
    out = sound_out m n m' n' marks

    pub lawful : Lawful (before_and_after m n m' n' marks)
    lawful = record {
      sound_unit = sound_in m n m' n' marks (before_and_after m n m' n' marks).unit (record { before = laws.sound_unit; after = laws'.sound_unit; pairs = within_none n.order n'.order });
      sound_image = λ k. sound_in m n m' n' marks ((before_and_after m n m' n' marks).image k) (record { before = laws.sound_image k; after = laws'.sound_image k; pairs = marked-within (marked marks k) });
      sound_mul = λ x y s t.
          let sx = out x s in
          let sy = out y t in
          sound_in m n m' n' marks ((before_and_after m n m' n' marks).mul x y) (record {
            before = laws.sound_mul x.before y.before sx.before sy.before;
            after = laws'.sound_mul x.after y.after sx.after sy.after;
            pairs = pairs_within x.before y.after x.pairs y.pairs sx.before sy.after sx.pairs sy.pairs;
          });
      left = λ x s. let sx = out x s in split_is (laws.left x.before sx.before) (unit_pairs x.after x.pairs sx.pairs) (laws'.left x.after sx.after);
      right = λ x s. let sx = out x s in split_is (laws.right x.before sx.before) (pairs_unit x.before x.pairs sx.pairs) (laws'.right x.after sx.after);
      assoc = λ x y z s t u.
          let sx = out x s in
          let sy = out y t in
          let sz = out z u in
          split_is
          (laws.assoc x.before y.before z.before sx.before sy.before sz.before)
          (pairs_assoc x y z sx sy sz)
          (laws'.assoc x.after y.after z.after sx.after sy.after sz.after);
    }

-- recognisers below that keep their meanings keep the meaning above
pub meaning_kept : {E F : Type 0} {m v : Meaning E} {n u : Small E} {m' v' : Meaning F} {n' u' : Small F} (marks : List Bool) → v ≡ m → u ≡ n → v' ≡ m' → u' ≡ n' → before_and_after v u v' u' marks ≡ before_and_after m n m' n' marks
meaning_kept {E} {F} {m} {v} {n} {u} {m'} {v'} {n'} {u'} marks e f e' f' =
    ap₂ (λ (w : Meaning E) (i : Small E). before_and_after w i v' u' marks) e f ∙ ap₂ (λ (w : Meaning F) (i : Small F). before_and_after m n w i marks) e' f'

-- the product of two elements from what the recognisers below answered
pub split_product : {E F : Type 0} {m v : Meaning E} (n : Small E) {m' v' : Meaning F} (n' : Small F) (marks : List Bool) → v ≡ m → v' ≡ m'
    → (x y : Split E F) (c : E) (c' : F) (later earlier pairs : PairSet)
    → (m.sound x.before ≡ true → later ≡ acted First m n x.before y.pairs) → (m'.sound y.after ≡ true → earlier ≡ acted Second m' n' y.after x.pairs) → pairs ≡ joined later earlier
    → (v.sound x.before ≡ true → v.sound y.before ≡ true → c ≡ v.mul x.before y.before) → (v'.sound x.after ≡ true → v'.sound y.after ≡ true → c' ≡ v'.mul x.after y.after)
    → (before_and_after m n m' n' marks).sound x ≡ true → (before_and_after m n m' n' marks).sound y ≡ true
    → ◌≡◌ {A = Split E F} (record { before = c; pairs = pairs; after = c' }) ((before_and_after m n m' n' marks).mul x y)
split_product {E} {F} {m} {v} n {m'} {v'} n' marks e e' x y c c' later earlier pairs later_is earlier_is pairs_are c_is c'_is s t =
    let sx = sound_out m n m' n' marks x s in
    let sy = sound_out m n m' n' marks y t in
    split_is
    (product_told m v x.before y.before c e c_is sx.before sy.before)
    (pairs_are ∙ ap₂ joined (later_is sx.before) (earlier_is sy.after))
    (product_told m' v' x.after y.after c' e' c'_is sx.after sy.after)
