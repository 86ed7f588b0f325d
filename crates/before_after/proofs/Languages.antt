-- The language of before_and_after: a pair is in the image of a word exactly where a marked row parts the word.
use Rattle.std.proofs.Common.{◌≡◌, ℕ, ◌<◌, Bool, true, false, cond, List, [], ◌∷◌, ◌++◌, sym, refl, ap, ◌∙◌, subst, ⊎_elim, arith}
use Rattle.std.proofs.lemmas.Bool.{and_parts, and_from}
use Rattle.rows.specs.declared.kind.Kind.{Kind}
use Rattle.monoid.specs.Meaning.{Meaning}
use Rattle.monoid.specs.Words.{Word, run, image_of, language, Recognises}
use Rattle.monoid.specs.Laws.{Lawful}
use Rattle.monoid.specs.Small.{Small, Sized, Undone}
use Rattle.monoid.proofs.Words.{image_sound, image_cons}
use Rattle.pairs.specs.declared.member.Member.TheVariants.{First, Second}
use Rattle.pairs.specs.declared.pair_set.PairSet.{PairSet}
use Rattle.pairs.specs.Pairs.{holds, none, only, joined}
use Rattle.pairs.proofs.Below.{some_in, some_out}
use Rattle.pairs.proofs.Pairs.{In, not_in_none, only_in, only_out, joined-out, joined_left, joined_right}
use Rattle.pairs.proofs.Moved.{moved_out, moved_in}
use Rattle.before_after.specs.declared.split.Split.{Split}
use Rattle.before_after.specs.Action.{action, acted}
use Rattle.before_after.specs.BeforeAfter.{marked, marked_pairs, lit_at, row_lit, lit_row, before_and_after}
use Rattle.before_after.specs.Marked.{Marked}
use Rattle.before_after.specs.Actions.{action_index}
use Rattle.before_after.specs.Laws.{lawful}

module _ {E F : Type 0} (m : Meaning E) (n : Small E) (m' : Meaning F) (n' : Small F) (marks : List Bool) where
  -- a marked row that parts a word, with the indexes of the images of both parts
  record Cut (w : Word) (i j : ℕ) : Type 0 where
    prefix : Word
    kind : Kind
    suffix : Word
    parts : w ≡ prefix ++ (kind ∷ suffix)
    is_marked : marked marks kind ≡ true
    first : i ≡ n.index (image_of m prefix)
    second : j ≡ n'.index (image_of m' suffix)

  -- the pairs of the image of a word
  abbrev pairs_of : Word → PairSet
  pairs_of w = (image_of (before_and_after m n m' n' marks) w).pairs

  run-after : (x : Split E F) (w : Word) → (run (before_and_after m n m' n' marks) x w).after ≡ run m' x.after w
  run-after x [] = refl
  run-after x (k ∷ w) = run-after ((before_and_after m n m' n' marks).mul x ((before_and_after m n m' n' marks).image k)) w

-- the index of the image of a word is below the order, and lit exactly where the word is in the language
module _ {E : Type 0} {m : Meaning E} {n : Small E} (laws : Lawful m) (undone : Undone m n) (w : Word) where
  word_below : n.index (image_of m w) < n.order
  word_below = undone.index_below (image_of m w) (image_sound laws w)

  word_element : n.element (n.index (image_of m w)) ≡ image_of m w
  word_element = undone.there (image_of m w) (image_sound laws w)

  word_only : (i : ℕ) → i ≡ n.index (image_of m w) → m.lit (n.element i) 0 ≡ true → language m 0 w
  word_only i is lit = ap (λ x. m.lit x 0) (sym word_element ∙ ap n.element (sym is)) ∙ lit

  word_every : language m 0 w → m.lit (n.element (n.index (image_of m w))) 0 ≡ true
  word_every it = ap (λ x. m.lit x 0) word_element ∙ it

-- the pair of a marked kind
pair_out : (b : Bool) (u v i j : ℕ) → In (cond b (only u v) none) i j → (b ≡ true) × (i ≡ u) × (j ≡ v)
pair_out true u v i j e = let is = only_out u v i j e in (refl, is.0, is.1)
pair_out false u v i j e = absurd (not_in_none i j e)

pair_in : (b : Bool) (u v : ℕ) → b ≡ true → u < 8 → v < 8 → In (cond b (only u v) none) u v
pair_in b u v yes' hu hv = subst (λ a. In (cond a (only u v) none) u v) (sym yes') (only_in u v hu hv)

module _ {E F : Type 0} {m : Meaning E} {n : Small E} {m' : Meaning F} {n' : Small F}
    (laws : Lawful m) (undone : Undone m n) (sized : Sized n)
    (laws' : Lawful m') (undone' : Undone m' n') (sized' : Sized n') (marks : List Bool) where
  -- one row more in front: the pairs of the others are taken by it, and its own pair by the others
  pairs_cons : (k : Kind) (w : Word) → pairs_of m n m' n' marks (k ∷ w) ≡ joined (acted First m n (m.image k) (pairs_of m n m' n' marks w)) (acted Second m' n' (image_of m' w) (marked_pairs m n m' n' marks k))
  pairs_cons k w =
      ap (λ (x : Split E F). x.pairs) (image_cons (lawful laws undone sized laws' undone' sized' marks) k w)
      ∙ ap (λ (b : F). joined (acted First m n (m.image k) (pairs_of m n m' n' marks w)) (acted Second m' n' b (marked_pairs m n m' n' marks k))) (run-after m n m' n' marks (before_and_after m n m' n' marks).unit w)

  -- a row in front takes the index of a word's image to that of the longer word
  first_cons : (k : Kind) (w : Word) → action First m n (m.image k) (n.index (image_of m w)) ≡ n.index (image_of m (k ∷ w))
  first_cons k w = action_index laws undone First (m.image k) (image_of m w) (image_sound laws w) ∙ ap n.index (sym (image_cons laws k w))

  -- a word takes the index of the unit to that of its image
  second_unit : (w : Word) → action Second m' n' (image_of m' w) (n'.index m'.unit) ≡ n'.index (image_of m' w)
  second_unit w = action_index laws' undone' Second (image_of m' w) m'.unit laws'.sound_unit ∙ ap n'.index (laws'.left (image_of m' w) (image_sound laws' w))

  cut_out : (w : Word) (i j : ℕ) → In (pairs_of m n m' n' marks w) i j → Cut m n m' n' marks w i j
  cut_out [] i j e = absurd (not_in_none i j e)
  cut_out (k ∷ w) i j e =
      let later = acted First m n (m.image k) (pairs_of m n m' n' marks w) in
      let own = acted Second m' n' (image_of m' w) (marked_pairs m n m' n' marks k) in
      ⊎_elim
      (λ h.
      let from = moved_out First n.order (action First m n (m.image k)) (pairs_of m n m' n' marks w) i j h in
      let cut = cut_out w from.0 j from.3 in
      record {
        prefix = k ∷ cut.prefix;
        kind = cut.kind;
        suffix = cut.suffix;
        parts = ap (λ u. k ∷ u) cut.parts;
        is_marked = cut.is_marked;
        first = from.2 ∙ ap (action First m n (m.image k)) cut.first ∙ first_cons k cut.prefix;
        second = cut.second;
      })
      (λ h.
      let from = moved_out Second n'.order (action Second m' n' (image_of m' w)) (marked_pairs m n m' n' marks k) j i h in
      let pair = pair_out (marked marks k) (n.index m.unit) (n'.index m'.unit) i from.0 from.3 in
      record {
        prefix = [];
        kind = k;
        suffix = w;
        parts = refl;
        is_marked = pair.0;
        first = pair.1;
        second = from.2 ∙ ap (action Second m' n' (image_of m' w)) pair.2 ∙ second_unit w;
      })
      (joined-out later own i j (subst (λ q. In q i j) (pairs_cons k w) e))

  cut_in : (p : Word) (k : Kind) (q : Word) → marked marks k ≡ true → In (pairs_of m n m' n' marks (p ++ (k ∷ q))) (n.index (image_of m p)) (n'.index (image_of m' q))
  cut_in [] k q is =
      let i = n.index m.unit in
      let j = n'.index (image_of m' q) in
      let u' = n'.index m'.unit in
      let i8 : i < 8 = omega (arith, word_below laws undone [], sized.few) in
      let j8 : j < 8 = omega (arith, word_below laws' undone' q, sized'.few) in
      let u8 : u' < 8 = omega (arith, word_below laws' undone' [], sized'.few) in
      subst (λ s. In s i j) (sym (pairs_cons k q))
      (joined_right (acted First m n (m.image k) (pairs_of m n m' n' marks q)) (acted Second m' n' (image_of m' q) (marked_pairs m n m' n' marks k)) i j
      (moved_in Second n'.order (action Second m' n' (image_of m' q)) (marked_pairs m n m' n' marks k) j i j8 u' (word_below laws' undone' []) (sym (second_unit q)) (pair_in (marked marks k) i u' is i8 u8)))
  cut_in (l ∷ p) k q is =
      let w = p ++ (k ∷ q) in
      let i = n.index (image_of m (l ∷ p)) in
      let j = n'.index (image_of m' q) in
      let i8 : i < 8 = omega (arith, word_below laws undone (l ∷ p), sized.few) in
      subst (λ s. In s i j) (sym (pairs_cons l w))
      (joined_left (acted First m n (m.image l) (pairs_of m n m' n' marks w)) (acted Second m' n' (image_of m' w) (marked_pairs m n m' n' marks l)) i j
      (moved_in First n.order (action First m n (m.image l)) (pairs_of m n m' n' marks w) i j i8 (n.index (image_of m p)) (word_below laws undone p) (sym (first_cons l p)) (cut_in p k q is)))

  lit_only : (w : Word) → language (before_and_after m n m' n' marks) 0 w → Marked m m' marks w
  lit_only w e =
      let pairs = pairs_of m n m' n' marks w in
      let row = some_out n.order (lit_row m n m' n' pairs) e in
      let i = row.0 in
      let here = and_parts (m.lit (n.element i) 0) (row_lit m' n' pairs i) row.2 in
      let pair = some_out n'.order (lit_at m' n' pairs i) here.1 in
      let j = pair.0 in
      let there = and_parts (m'.lit (n'.element j) 0) (holds pairs i j) pair.2 in
      let cut = cut_out w i j there.1 in
      record {
        prefix = cut.prefix;
        kind = cut.kind;
        suffix = cut.suffix;
        parts = cut.parts;
        is_marked = cut.is_marked;
        before = word_only laws undone cut.prefix i cut.first here.0;
        after = word_only laws' undone' cut.suffix j cut.second there.0;
      }

  lit_every : (w : Word) → Marked m m' marks w → language (before_and_after m n m' n' marks) 0 w
  lit_every w it =
      let p = it.prefix in
      let q = it.suffix in
      let i = n.index (image_of m p) in
      let j = n'.index (image_of m' q) in
      let pairs = pairs_of m n m' n' marks w in
      let pair : In pairs i j = subst (λ u. In (pairs_of m n m' n' marks u) i j) (sym it.parts) (cut_in p it.kind q it.is_marked) in
      some_in n.order (lit_row m n m' n' pairs) i (word_below laws undone p)
      (and_from (m.lit (n.element i) 0) (row_lit m' n' pairs i) (word_every laws undone p it.before)
      (some_in n'.order (lit_at m' n' pairs i) j (word_below laws' undone' q)
      (and_from (m'.lit (n'.element j) 0) (holds pairs i j) (word_every laws' undone' q it.after) pair)))

  pub recognises : Recognises (before_and_after m n m' n' marks) 0 (Marked m m' marks)
  recognises = record { only = lit_only; every = lit_every }
