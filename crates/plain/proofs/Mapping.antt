-- A call does the same to sheets whose rows are given in another way.
use Rattle.std.proofs.Common.{◌≡◌, ℕ, Bool, true, false, cond, not, ◌&&◌, ◌||◌, eqb, List, [], ◌∷◌, ◌++◌, map, sym, refl, ap, ◌∙◌, ap₂}
use Rattle.std.proofs.lemmas.Bool.{eqb-true, cond-true, cond-false}
use Rattle.plain.specs.declared.state.State.TheVariants.{Settled, Paused}
use Rattle.plain.specs.declared.call.Call.{Call}
use Rattle.plain.specs.Forms.{Edit, Effect, opens, copies, renames, closes, edits, pauses, recalculates, looks, form}
use Rattle.plain.specs.Sheets.{Sheet, fresh, retagged, restated, edited, across, named, rows_of, altered, without}
use Rattle.plain.specs.Questions.{is_tag}
use Rattle.plain.specs.Lawful.{tagged}
use Rattle.plain.specs.Steps.{Rows, copies_of, done, after}
use Rattle.plain.specs.Calls.{tag_of}
use Rattle.plain.proofs.Tags.{altered-none, head_apart, tail_tagged}

-- the edits on X become the edits on Y
pub record Carries {X Y : Type 0} (from : Rows X) (to : Rows Y) (f : X → Y) : Type 0 where
  pub none : f from.none ≡ to.none
  pub copy : (x : X) → f (from.copy x) ≡ to.copy (f x)
  pub edit : (e : Edit) (x : X) → f (from.edit e x) ≡ to.edit e (f x)
  pub renew : (x : X) → f (from.renew x) ≡ to.renew (f x)

module _ {X Y : Type 0} (f : X → Y) where
  map-append : (ss ts : List (Sheet X)) → map (across f) (ss ++ ts) ≡ map (across f) ss ++ map (across f) ts
  map-append [] ts = refl
  map-append (s ∷ ss) ts = ap (λ l. across f s ∷ l) (map-append ss ts)

  pub named-map : (tag : ℕ) (ss : List (Sheet X)) → named tag (map (across f) ss) ≡ named tag ss
  named-map tag [] = refl
  named-map tag (s ∷ ss) = ap (λ b. eqb s.tag tag || b) (named-map tag ss)

  map-altered : (tag : ℕ) (g : Sheet X → Sheet X) (h : Sheet Y → Sheet Y) → ((s : Sheet X) → across f (g s) ≡ h (across f s)) → (ss : List (Sheet X)) → map (across f) (altered tag g ss) ≡ altered tag h (map (across f) ss)
  map-altered tag g h same [] = refl
  map-altered tag g h same (s ∷ ss) = ap₂ ◌∷◌ (head (eqb s.tag tag)) (map-altered tag g h same ss)
    where
      head : (b : Bool) → across f (cond b (g s) s) ≡ cond b (h (across f s)) (across f s)
      head true = same s
      head false = refl

  map-without : (tag : ℕ) (ss : List (Sheet X)) → map (across f) (without tag ss) ≡ without tag (map (across f) ss)
  map-without tag [] = refl
  map-without tag (s ∷ ss) = go (eqb s.tag tag) (map-without tag ss)
    where
      go : (b : Bool) → map (across f) (without tag ss) ≡ without tag (map (across f) ss) → map (across f) (cond b (without tag ss) (s ∷ without tag ss)) ≡ cond b (without tag (map (across f) ss)) (across f s ∷ without tag (map (across f) ss))
      go true rest = rest
      go false rest = ap (λ l. across f s ∷ l) rest

  module _ {from : Rows X} {to : Rows Y} (carries : Carries from to f) where
    map-copies : (tag new : ℕ) (ss : List (Sheet X)) → map (across f) (copies_of from tag new ss) ≡ copies_of to tag new (map (across f) ss)
    map-copies tag new [] = refl
    map-copies tag new (s ∷ ss) = go (eqb s.tag tag) (map-copies tag new ss)
      where
        go : (b : Bool) → map (across f) (copies_of from tag new ss) ≡ copies_of to tag new (map (across f) ss) → map (across f) (cond b (fresh new (from.copy s.rows) ∷ []) (copies_of from tag new ss)) ≡ cond b (fresh new (to.copy (f s.rows)) ∷ []) (copies_of to tag new (map (across f) ss))
        go true rest = ap (λ y. fresh new y ∷ []) (carries.copy s.rows)
        go false rest = rest

    map-edited : (tag : ℕ) (g : X → X) (h : Y → Y) → ((x : X) → f (g x) ≡ h (f x)) → (ss : List (Sheet X)) → map (across f) (altered tag (edited g) ss) ≡ altered tag (edited h) (map (across f) ss)
    map-edited tag g h same ss = map-altered tag (edited g) (edited h) (λ s. ap (λ y. record { tag = s.tag; state = s.state; rows = y }) (same s.rows)) ss

    done_map : (effect : Effect) (tag : ℕ) (ss : List (Sheet X)) → map (across f) (done from effect tag ss) ≡ done to effect tag (map (across f) ss)
    done_map opens tag ss = map-append ss (fresh tag from.none ∷ []) ∙ ap (λ y. map (across f) ss ++ (fresh tag y ∷ [])) carries.none
    done_map (copies new) tag ss = map-append ss (copies_of from tag new ss) ∙ ap (λ l. map (across f) ss ++ l) (map-copies tag new ss)
    done_map (renames new) tag ss = map-altered tag (retagged new) (retagged new) (λ s. refl) ss
    done_map closes tag ss = map-without tag ss
    done_map (edits e) tag ss = map-edited tag (from.edit e) (to.edit e) (carries.edit e) ss
    done_map pauses tag ss = map-altered tag (restated Paused) (restated Paused) (λ s. refl) ss
    done_map recalculates tag ss = map-altered tag (λ s. restated Settled (edited from.renew s)) (λ s. restated Settled (edited to.renew s)) (λ s. ap (λ y. record { tag = s.tag; state = Settled; rows = y }) (carries.renew s.rows)) ss
    done_map (looks shows) tag ss = refl

    pub after_map : (ss : List (Sheet X)) (call : Call) → map (across f) (after from ss call) ≡ after to (map (across f) ss) call
    after_map ss call = done_map (form call).effect (tag_of call) ss

-- the tags are the same, however the rows are given
pub tagged-map : {X Y : Type 0} (f : X → Y) (ss : List (Sheet X)) → tagged (map (across f) ss) ≡ tagged ss
tagged-map f [] = refl
tagged-map f (s ∷ ss) = ap₂ (λ b c. is_tag s.tag && (not b && c)) (named-map f s.tag ss) (tagged-map f ss)

-- what is asked of the edits at the rows of the sheet that a call is about
module _ {X Y : Type 0} (from : Rows X) (to : Rows Y) (f : X → Y) where
  abbrev carries_at : Effect → X → Type 0
  carries_at opens x = f from.none ≡ to.none
  carries_at (copies new) x = f (from.copy x) ≡ to.copy (f x)
  carries_at (edits e) x = f (from.edit e x) ≡ to.edit e (f x)
  carries_at recalculates x = f (from.renew x) ≡ to.renew (f x)
  carries_at _ x = Unit {0}

  abbrev pub CarriesAt : Call → X → Type 0
  CarriesAt call x = carries_at (form call).effect x

  map_altered_at : (tag : ℕ) (d : X) (g : Sheet X → Sheet X) (h : Sheet Y → Sheet Y) (ss : List (Sheet X)) → tagged ss ≡ true → ((s : Sheet X) → s.rows ≡ rows_of d tag ss → across f (g s) ≡ h (across f s)) → map (across f) (altered tag g ss) ≡ altered tag h (map (across f) ss)
  map_altered_at tag d g h [] distinct same = refl
  map_altered_at tag d g h (s ∷ ss) distinct same = go (eqb s.tag tag) refl (map_altered_at tag d g h ss (tail_tagged s ss distinct))
    where
      go : (b : Bool) → eqb s.tag tag ≡ b → (((t : Sheet X) → t.rows ≡ rows_of d tag ss → across f (g t) ≡ h (across f t)) → map (across f) (altered tag g ss) ≡ altered tag h (map (across f) ss)) → across f (cond b (g s) s) ∷ map (across f) (altered tag g ss) ≡ cond b (h (across f s)) (across f s) ∷ altered tag h (map (across f) ss)
      go true here rest =
          let none : named tag ss ≡ false = ap (λ t. named t ss) (sym (eqb-true s.tag tag here)) ∙ head_apart s ss distinct in
          ap₂ ◌∷◌ (same s (sym (cond-true (eqb s.tag tag) s.rows (rows_of d tag ss) here)))
          (ap (map (across f)) (altered-none tag g ss none) ∙ sym (altered-none tag h (map (across f) ss) (named-map f tag ss ∙ none)))
      go false here rest = ap (λ l. across f s ∷ l) (rest (λ t e. same t (e ∙ sym (cond-false (eqb s.tag tag) s.rows (rows_of d tag ss) here))))

  map_copies_at : (tag new : ℕ) (d : X) (ss : List (Sheet X)) → f (from.copy (rows_of d tag ss)) ≡ to.copy (f (rows_of d tag ss)) → map (across f) (copies_of from tag new ss) ≡ copies_of to tag new (map (across f) ss)
  map_copies_at tag new d [] same = refl
  map_copies_at tag new d (s ∷ ss) same = go (eqb s.tag tag) same (map_copies_at tag new d ss)
    where
      go : (b : Bool) → f (from.copy (cond b s.rows (rows_of d tag ss))) ≡ to.copy (f (cond b s.rows (rows_of d tag ss))) → (f (from.copy (rows_of d tag ss)) ≡ to.copy (f (rows_of d tag ss)) → map (across f) (copies_of from tag new ss) ≡ copies_of to tag new (map (across f) ss)) → map (across f) (cond b (fresh new (from.copy s.rows) ∷ []) (copies_of from tag new ss)) ≡ cond b (fresh new (to.copy (f s.rows)) ∷ []) (copies_of to tag new (map (across f) ss))
      go true at rest = ap (λ y. fresh new y ∷ []) at
      go false at rest = rest at

  edits_at : (tag : ℕ) (d : X) (g : X → X) (h : Y → Y) (ss : List (Sheet X)) → tagged ss ≡ true → f (g (rows_of d tag ss)) ≡ h (f (rows_of d tag ss)) → map (across f) (altered tag (edited g) ss) ≡ altered tag (edited h) (map (across f) ss)
  edits_at tag d g h ss distinct at = map_altered_at tag d (edited g) (edited h) ss distinct (λ s e. ap (λ y. record { tag = s.tag; state = s.state; rows = y }) (ap (λ x. f (g x)) e ∙ at ∙ ap (λ x. h (f x)) (sym e)))

  done_map_at : (ss : List (Sheet X)) → tagged ss ≡ true → (effect : Effect) (tag : ℕ) (d : X) → carries_at effect (rows_of d tag ss) → map (across f) (done from effect tag ss) ≡ done to effect tag (map (across f) ss)
  done_map_at ss distinct opens tag d at = map-append f ss (fresh tag from.none ∷ []) ∙ ap (λ y. map (across f) ss ++ (fresh tag y ∷ [])) at
  done_map_at ss distinct (copies new) tag d at = map-append f ss (copies_of from tag new ss) ∙ ap (λ l. map (across f) ss ++ l) (map_copies_at tag new d ss at)
  done_map_at ss distinct (renames new) tag d at = map-altered f tag (retagged new) (retagged new) (λ s. refl) ss
  done_map_at ss distinct closes tag d at = map-without f tag ss
  done_map_at ss distinct (edits e) tag d at = edits_at tag d (from.edit e) (to.edit e) ss distinct at
  done_map_at ss distinct pauses tag d at = map-altered f tag (restated Paused) (restated Paused) (λ s. refl) ss
  done_map_at ss distinct recalculates tag d at = map_altered_at tag d (λ s. restated Settled (edited from.renew s)) (λ s. restated Settled (edited to.renew s)) ss distinct (λ s e. ap (λ y. record { tag = s.tag; state = Settled; rows = y }) (ap (λ x. f (from.renew x)) e ∙ at ∙ ap (λ x. to.renew (f x)) (sym e)))
  done_map_at ss distinct (looks shows) tag d at = refl

  -- a call does the same to the sheets, where the edit of its own sheet does
  pub after_map_at : (ss : List (Sheet X)) → tagged ss ≡ true → (call : Call) (d : X) → CarriesAt call (rows_of d (tag_of call) ss) → map (across f) (after from ss call) ≡ after to (map (across f) ss) call
  after_map_at ss distinct call d at = done_map_at ss distinct (form call).effect (tag_of call) d at
