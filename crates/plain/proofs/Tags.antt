-- What appending, altering and removing a sheet leave of the tags.
use Rattle.std.proofs.Common.{◌≡◌, ℕ, Bool, true, false, cond, not, ◌&&◌, ◌||◌, eqb, List, [], ◌∷◌, ◌++◌, sym, refl, ap, ◌∙◌, ap₂}
use Rattle.std.proofs.lemmas.Bool.{and_parts, and_from, or_parts, or_from, eqb-true, eqb-false, ne_eqb, not-true, not_from_false, cond-false}
use Rattle.plain.specs.Sheets.{Sheet, retagged, named, altered, without}
use Rattle.plain.specs.Questions.{is_tag}
use Rattle.plain.specs.Lawful.{tagged}

apart : (a b : ℕ) → eqb a b ≡ false → eqb b a ≡ false
apart a b h = ne_eqb b a (λ e. eqb-false a b h (sym e))

module _ {X : Type 0} where
  -- the parts of a head's lawfulness, and the whole from them
  pub head_tag : (s : Sheet X) (ss : List (Sheet X)) → tagged (s ∷ ss) ≡ true → is_tag s.tag ≡ true
  head_tag s ss h = (and_parts (is_tag s.tag) (not (named s.tag ss) && tagged ss) h).0

  pub head_apart : (s : Sheet X) (ss : List (Sheet X)) → tagged (s ∷ ss) ≡ true → named s.tag ss ≡ false
  head_apart s ss h = not-true (named s.tag ss) (and_parts (not (named s.tag ss)) (tagged ss) (and_parts (is_tag s.tag) (not (named s.tag ss) && tagged ss) h).1).0

  pub tail_tagged : (s : Sheet X) (ss : List (Sheet X)) → tagged (s ∷ ss) ≡ true → tagged ss ≡ true
  tail_tagged s ss h = (and_parts (not (named s.tag ss)) (tagged ss) (and_parts (is_tag s.tag) (not (named s.tag ss) && tagged ss) h).1).1

  tagged-cons : (s : Sheet X) (ss : List (Sheet X)) → is_tag s.tag ≡ true → named s.tag ss ≡ false → tagged ss ≡ true → tagged (s ∷ ss) ≡ true
  tagged-cons s ss tag distinct rest = and_from (is_tag s.tag) (not (named s.tag ss) && tagged ss) tag (and_from (not (named s.tag ss)) (tagged ss) (not_from_false (named s.tag ss) distinct) rest)

  -- appending
  named-append : (tag : ℕ) (ss : List (Sheet X)) (t : Sheet X) → named tag ss ≡ false → eqb t.tag tag ≡ false → named tag (ss ++ (t ∷ [])) ≡ false
  named-append tag [] t h other = or_from (eqb t.tag tag) false other refl
  named-append tag (s ∷ ss) t h other =
      let parts = or_parts (eqb s.tag tag) (named tag ss) h in
      or_from (eqb s.tag tag) (named tag (ss ++ (t ∷ []))) parts.0 (named-append tag ss t parts.1 other)

  pub tagged-append : (ss : List (Sheet X)) (t : Sheet X) → tagged ss ≡ true → is_tag t.tag ≡ true → named t.tag ss ≡ false → tagged (ss ++ (t ∷ [])) ≡ true
  tagged-append [] t h fits fresh = tagged-cons t [] fits refl refl
  tagged-append (s ∷ ss) t h fits fresh =
      let parts = or_parts (eqb s.tag t.tag) (named t.tag ss) fresh in
      tagged-cons s (ss ++ (t ∷ [])) (head_tag s ss h) (named-append s.tag ss t (head_apart s ss h) (apart s.tag t.tag parts.0)) (tagged-append ss t (tail_tagged s ss h) fits parts.1)

  -- a sheet that is not there is not altered
  pub altered-none : (tag : ℕ) (f : Sheet X → Sheet X) (ss : List (Sheet X)) → named tag ss ≡ false → altered tag f ss ≡ ss
  altered-none tag f [] h = refl
  altered-none tag f (s ∷ ss) h =
      let parts = or_parts (eqb s.tag tag) (named tag ss) h in
      ap₂ ◌∷◌ (cond-false (eqb s.tag tag) (f s) s parts.0) (altered-none tag f ss parts.1)

  -- altering what is no tag
  module _ (tag : ℕ) (f : Sheet X → Sheet X) (keeps : (s : Sheet X) → (f s).tag ≡ s.tag) where
    head_keeps : (b : Bool) (s : Sheet X) → (cond b (f s) s).tag ≡ s.tag
    head_keeps true s = keeps s
    head_keeps false s = refl

    pub named-altered : (q : ℕ) (ss : List (Sheet X)) → named q (altered tag f ss) ≡ named q ss
    named-altered q [] = refl
    named-altered q (s ∷ ss) = ap₂ (λ t b. eqb t q || b) (head_keeps (eqb s.tag tag) s) (named-altered q ss)

    pub tagged-altered : (ss : List (Sheet X)) → tagged (altered tag f ss) ≡ tagged ss
    tagged-altered [] = refl
    tagged-altered (s ∷ ss) =
        ap (λ t. is_tag t && (not (named t (altered tag f ss)) && tagged (altered tag f ss))) (head_keeps (eqb s.tag tag) s)
        ∙ ap₂ (λ b c. is_tag s.tag && (not b && c)) (named-altered s.tag ss) (tagged-altered ss)

  -- a new tag for a sheet
  named-retagged : (tag new q : ℕ) (ss : List (Sheet X)) → named q ss ≡ false → eqb new q ≡ false → named q (altered tag (retagged new) ss) ≡ false
  named-retagged tag new q [] h other = refl
  named-retagged tag new q (s ∷ ss) h other =
      let parts = or_parts (eqb s.tag q) (named q ss) h in
      or_from (eqb (cond (eqb s.tag tag) (retagged new s) s).tag q) (named q (altered tag (retagged new) ss)) (either (eqb s.tag tag) parts.0) (named-retagged tag new q ss parts.1 other)
    where
      either : (b : Bool) → eqb s.tag q ≡ false → eqb (cond b (retagged new s) s).tag q ≡ false
      either true h' = other
      either false h' = h'

  pub tagged-retagged : (tag new : ℕ) (ss : List (Sheet X)) → tagged ss ≡ true → is_tag new ≡ true → named new ss ≡ false → tagged (altered tag (retagged new) ss) ≡ true
  tagged-retagged tag new [] h fits fresh = refl
  tagged-retagged tag new (s ∷ ss) h fits fresh = go (eqb s.tag tag) refl (tagged-retagged tag new ss (tail_tagged s ss h) fits parts.1)
    where
      parts : (eqb s.tag new ≡ false) × (named new ss ≡ false)
      parts = or_parts (eqb s.tag new) (named new ss) fresh

      go : (b : Bool) → eqb s.tag tag ≡ b → tagged (altered tag (retagged new) ss) ≡ true → tagged (cond b (retagged new s) s ∷ altered tag (retagged new) ss) ≡ true
      go true here rest =
          let same : altered tag (retagged new) ss ≡ ss = altered-none tag (retagged new) ss (ap (λ t. named t ss) (sym (eqb-true s.tag tag here)) ∙ head_apart s ss h) in
          tagged-cons (retagged new s) (altered tag (retagged new) ss) fits (ap (named new) same ∙ parts.1) rest
      go false here rest = tagged-cons s (altered tag (retagged new) ss) (head_tag s ss h) (named-retagged tag new s.tag ss (head_apart s ss h) (apart s.tag new parts.0)) rest

  -- removing
  named-without : (tag q : ℕ) (ss : List (Sheet X)) → named q ss ≡ false → named q (without tag ss) ≡ false
  named-without tag q [] h = refl
  named-without tag q (s ∷ ss) h = go (eqb s.tag tag) (named-without tag q ss parts.1)
    where
      parts : (eqb s.tag q ≡ false) × (named q ss ≡ false)
      parts = or_parts (eqb s.tag q) (named q ss) h

      go : (b : Bool) → named q (without tag ss) ≡ false → named q (cond b (without tag ss) (s ∷ without tag ss)) ≡ false
      go true rest = rest
      go false rest = or_from (eqb s.tag q) (named q (without tag ss)) parts.0 rest

  pub tagged-without : (tag : ℕ) (ss : List (Sheet X)) → tagged ss ≡ true → tagged (without tag ss) ≡ true
  tagged-without tag [] h = refl
  tagged-without tag (s ∷ ss) h = go (eqb s.tag tag) (tagged-without tag ss (tail_tagged s ss h))
    where
      go : (b : Bool) → tagged (without tag ss) ≡ true → tagged (cond b (without tag ss) (s ∷ without tag ss)) ≡ true
      go true rest = rest
      go false rest = tagged-cons s (without tag ss) (head_tag s ss h) (named-without tag s.tag ss (head_apart s ss h)) rest
