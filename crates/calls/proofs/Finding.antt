-- What a call finds on a sound book: the tree of its sheet, the unused cells, and the answers to its questions.
use Rattle.std.proofs.Common.{◌≡◌, ℕ, ◌+◌, ◌≤◌, Bool, true, false, cond, not, ◌&&◌, eqb, ltb, leb, List, [], ◌∷◌, map, length, None, Option, sym, refl, ap, ◌∙◌, subst, ⊎_elim, arith}
use Rattle.std.proofs.lemmas.Bool.{cases_lt, and_parts, leb-true, false≢true}
use Rattle.monoid.specs.Meaning.{Meaning}
use Rattle.plain.specs.declared.state.State.{State}
use Rattle.plain.specs.declared.state.State.TheVariants.{Settled, Paused}
use Rattle.plain.specs.declared.call.Call.{Call}
use Rattle.plain.specs.declared.call.Call.TheVariants.{Open, Copy, Close, Insert, Strike, Replace, Whole, Range, Recalculate}
use Rattle.plain.specs.declared.refusal.Refusal.{Refusal}
use Rattle.plain.specs.declared.refusal.Refusal.TheVariants.{TagOutOfRange, NoSuchSheet, TagInUse, TooManySheets, NotSettled, RowOutOfRange, NoRoom}
use Rattle.plain.specs.Calls.{tag_of}
use Rattle.plain.specs.Sheets.{Sheet, across, is_settled, is_paused, named, such, state_in, rows_of, total}
use Rattle.plain.specs.Refusals.{or_else}
use Rattle.plain.specs.Questions.{is_tag, is_row, is_range}
use Rattle.plain.proofs.Asking.{passed}
use Rattle.plain.proofs.Mapping.{named-map}
use Rattle.records.specs.declared.records.Records.{Records}
use Rattle.records.specs.Views.{standing, outline_of, refusal_by}
use Rattle.records.specs.Changes.{sheets_of}
use Rattle.records.proofs.Committing.{entries_of}
use Rattle.records.proofs.Within.{total-within}
use Rattle.cells.specs.declared.cell.Cell.{Cell}
use Rattle.cells.specs.Trees.{Tree, leaf, size, Balanced, count, Stands}
use Rattle.cells.specs.Truth.{True}
use Rattle.cells.specs.Rooted.{Rooted}
use Rattle.unused.specs.Listed.{times, Listed}
use Rattle.unused.specs.Freeing.{sum}
use Rattle.changes.specs.declared.change.Part.{Part}
use Rattle.changes.specs.Changes.{Found, Askable}
use Rattle.changes.proofs.Finding.{rooted_of as rooted_part}
use Rattle.calls.specs.Models.{Model, rooted_of, recorded, trees_of}
use Rattle.calls.specs.Sound.{AllHeld, own, Sound}
use Rattle.calls.specs.Ways.{Worked}
use Rattle.calls.proofs.Filling.{filled}

-- a state that is not paused is settled
not-paused : (state : State) → is_paused state ≡ false → state ≡ Settled
not-paused Settled e = refl
not-paused Paused e = absurd (false≢true (sym e))

-- one that is settled is not paused
settled-paused : (state : State) → is_settled state ≡ true → is_paused state ≡ false
settled-paused Settled e = refl
settled-paused Paused e = absurd (false≢true e)

-- a state by whether it is paused
by_paused : (state : State) → state ≡ cond (is_paused state) Paused Settled
by_paused Settled = refl
by_paused Paused = refl

-- the state of a sheet is paused where the sheet is
state_paused : {X : Type 0} (tag : ℕ) (ss : List (Sheet X)) → is_paused (state_in tag ss) ≡ such is_paused tag ss
state_paused tag [] = refl
state_paused tag (s ∷ ss) = go (eqb s.tag tag) (state_paused tag ss)
  where
    go : (b : Bool) → is_paused (state_in tag ss) ≡ such is_paused tag ss → is_paused (cond b s.state (state_in tag ss)) ≡ cond b (is_paused s.state) (such is_paused tag ss)
    go true rest = refl
    go false rest = rest

pub state_told : {X : Type 0} (tag : ℕ) (ss : List (Sheet X)) → state_in tag ss ≡ cond (such is_paused tag ss) Paused Settled
state_told tag ss = by_paused (state_in tag ss) ∙ ap (λ p. cond p Paused Settled) (state_paused tag ss)

-- a settled sheet is not paused
such-settled : {X : Type 0} (tag : ℕ) (ss : List (Sheet X)) → such is_settled tag ss ≡ true → such is_paused tag ss ≡ false
such-settled tag [] h = refl
such-settled tag (s ∷ ss) h = go (eqb s.tag tag) h (such-settled tag ss)
  where
    go : (b : Bool) → cond b (is_settled s.state) (such is_settled tag ss) ≡ true → (such is_settled tag ss ≡ true → such is_paused tag ss ≡ false) → cond b (is_paused s.state) (such is_paused tag ss) ≡ false
    go true e rest = settled-paused s.state e
    go false e rest = rest e

module _ {X Y : Type 0} (f : X → Y) where
  -- a sheet is such, in whatever way its rows are given
  pub such-map : (is : State → Bool) (tag : ℕ) (ss : List (Sheet X)) → such is tag (map (across f) ss) ≡ such is tag ss
  such-map is tag [] = refl
  such-map is tag (s ∷ ss) = ap (cond (eqb s.tag tag) (is s.state)) (such-map is tag ss)

  -- the rows of a sheet whose rows are given in another way
  pub rows-map : (none : X) (tag : ℕ) (ss : List (Sheet X)) → rows_of (f none) tag (map (across f) ss) ≡ f (rows_of none tag ss)
  rows-map none tag [] = refl
  rows-map none tag (s ∷ ss) = go (eqb s.tag tag) (rows-map none tag ss)
    where
      go : (b : Bool) → rows_of (f none) tag (map (across f) ss) ≡ f (rows_of none tag ss) → cond b (f s.rows) (rows_of (f none) tag (map (across f) ss)) ≡ f (cond b s.rows (rows_of none tag ss))
      go true rest = refl
      go false rest = rest

module _ {E : Type 0} where
  -- what the records say of trees, by how many rows they have
  sized : (model : Model E) → map (across (λ (x : ℕ × Option ℕ). x.0)) (recorded model) ≡ map (across size) model
  sized [] = refl
  sized (s ∷ ss) = ap (λ l. across size s ∷ l) (sized ss)

  -- the rows of all sheets are those of all trees
  totalled : (model : Model E) → total (map (across size) model) ≡ sum size (trees_of model)
  totalled [] = refl
  totalled (s ∷ ss) = ap (λ n. size s.rows + n) (totalled ss)

  -- what is measured of the tree of a sheet is among what is measured of all trees
  among : (measure : Tree E → ℕ) (tag : ℕ) (ss : Model E) → measure leaf ≡ 0 → measure (rows_of leaf tag ss) ≤ sum measure (trees_of ss)
  among measure tag [] none = omega arith
  among measure tag (s ∷ ss) none = go (eqb s.tag tag) (among measure tag ss none)
    where
      go : (b : Bool) → measure (rows_of leaf tag ss) ≤ sum measure (trees_of ss) → measure (cond b s.rows (rows_of leaf tag ss)) ≤ measure s.rows + sum measure (trees_of ss)
      go true rest = omega arith
      go false rest = omega arith

  module _ (lawful : Bool) (m : Meaning E) (cells : List (Cell E)) where
    -- the cells hold a tree, and its stored products are true where its sheet is not paused
    record TreeHeld (t : Tree E) (paused : Bool) : Type 0 where
      stands : Stands cells t
      balanced : Balanced t
      truth : lawful ≡ true → paused ≡ false → True m t

    -- so it is of the tree of a tag: that of its sheet, or the one of no row where there is none
    held_at : (tag : ℕ) (ss : Model E) → AllHeld lawful m cells ss → TreeHeld (rows_of leaf tag ss) (such is_paused tag ss)
    held_at tag [] all = record { stands = tt; balanced = tt; truth = λ law settled. tt }
    held_at tag (s ∷ ss) all = go (eqb s.tag tag) (held_at tag ss all.1)
      where
        go : (b : Bool) → TreeHeld (rows_of leaf tag ss) (such is_paused tag ss) → TreeHeld (cond b s.rows (rows_of leaf tag ss)) (cond b (is_paused s.state) (such is_paused tag ss))
        go true rest = record { stands = all.0.stands; balanced = all.0.balanced; truth = λ law settled. all.0.truth law (not-paused s.state settled) }
        go false rest = rest

-- a row that is one of n
row_among : (n row : ℕ) → is_row n row ≡ true → (1 ≤ row) × (row ≤ n)
row_among n row h =
    let p = and_parts (leb 1 row) (leb row n) h in
    (leb-true 1 row p.0, leb-true row n p.1)

module _ {E : Type 0} {lawful : Bool} {m : Meaning E} {b : Records} {x : List (Cell E)} {before : Model E} (sound : Sound lawful m b x before) where
  -- the records outline the trees
  pub outline_sizes : outline_of b ≡ map (across size) before
  outline_sizes = sym (entries_of (standing b)) ∙ ap (map (across (λ (x : ℕ × Option ℕ). x.0))) sound.said ∙ sized before

  -- a sheet stands in the records where it stands in the book
  pub named_same : (tag : ℕ) → named tag (outline_of b) ≡ named tag before
  named_same tag = ap (named tag) outline_sizes ∙ named-map size tag before

  -- the state of a sheet is the same in the records and in the book
  pub state_same : (is : State → Bool) (tag : ℕ) → such is tag (outline_of b) ≡ such is tag before
  state_same is tag = ap (such is tag) outline_sizes ∙ such-map size is tag before

  -- the records give a sheet as many rows as its tree has
  pub rows_same : (tag : ℕ) → rows_of 0 tag (outline_of b) ≡ size (rows_of leaf tag before)
  rows_same tag = ap (rows_of 0 tag) outline_sizes ∙ rows-map size leaf tag before

  -- and all sheets together as many as all trees have
  pub total_same : total (outline_of b) ≡ sum size (trees_of before)
  total_same = ap total outline_sizes ∙ totalled before

  -- the unused places and the rows of all trees fill the capacity
  pub capacity_filled : length sound.places + sum size (trees_of before) ≡ b.capacity
  capacity_filled = filled b.capacity (trees_of before) sound.places sound.once sound.beyond

  -- each place is in one tree at the most, or unused, once
  pub places_apart : (q : ℕ) → sum (count q) (trees_of before) + times q sound.places ≤ 1
  places_apart q = ⊎_elim (λ lt. let o = sound.once q lt in omega arith) (λ le. let o = sound.beyond q le in omega arith) (cases_lt q b.capacity)

  -- the tree of a sheet and the unused cells, as a call finds them
  pub found : (tag : ℕ) (part : Part) → part.root ≡ (rows_of (0, None) tag (sheets_of b)).1 → part.unused ≡ b.unused → Found (own b x) part (rows_of leaf tag before) sound.places
  found tag part root unused =
      let held = held_at lawful m (own b x) tag before sound.held in
      record {
        stands = held.stands;
        balanced = held.balanced;
        top = root ∙ ap (λ (ss : List (Sheet (ℕ × Option ℕ))). (rows_of (0, None) tag ss).1) sound.said ∙ ap (λ (r : ℕ × Option ℕ). r.1) (rows-map rooted_of leaf tag before);
        few = (let a = among size tag before refl in let c = total_same in let d = total-within b in let e = b.most in omega arith);
        listed = subst (λ (h : Option ℕ). Listed (own b x) h sound.places) (sym unused) sound.listed;
        apart = λ q. let a = among (count q) tag before refl in let c = places_apart q in omega arith;
      }

  -- the cells hold the tree of a sheet under its root, and a walk down it is short
  pub rooted-found : (tag : ℕ) (root : Option ℕ) → root ≡ (rows_of (0, None) tag (sheets_of b)).1 → Rooted (own b x) root (rows_of leaf tag before)
  rooted-found tag root is =
      let part : Part = record { root = root; state = Settled; unused = b.unused } in
      rooted_part (own b x) part (rows_of leaf tag before) sound.places (found tag part is refl)

  -- a call is given a paused state where its sheet is paused
  pub paused_same : (tag : ℕ) → is_paused (state_in tag (outline_of b)) ≡ such is_paused tag before
  paused_same tag = state_paused tag (outline_of b) ∙ state_same is_paused tag

  -- the stored products of a sheet whose state is settled are true
  pub truth_found : (tag : ℕ) → lawful ≡ true → state_in tag (outline_of b) ≡ Settled → True m (rows_of leaf tag before)
  truth_found tag law settled = (held_at lawful m (own b x) tag before sound.held).truth law (sym (paused_same tag) ∙ ap is_paused settled)

  -- so are those of a sheet that the records call settled
  pub settled-true : (tag : ℕ) → such is_settled tag (outline_of b) ≡ true → lawful ≡ true → True m (rows_of leaf tag before)
  settled-true tag settled law = (held_at lawful m (own b x) tag before sound.held).truth law (such-settled tag before (sym (state_same is_settled tag) ∙ settled))

  -- so many rows more, for which there is room, are among the unused places
  room_found : (more : ℕ) → leb (total (outline_of b) + more) b.capacity ≡ true → more ≤ length sound.places
  room_found more h = let a = leb-true (total (outline_of b) + more) b.capacity h in let c = capacity_filled in let d = total_same in omega arith

  -- the first two questions of every call but open: its tags are such, and its sheet stands
  standing_asked : (tag : ℕ) (tags : Bool) (later : Option Refusal) → or_else tags TagOutOfRange (or_else (named tag (outline_of b)) NoSuchSheet later) ≡ None → (named tag before ≡ true) × (later ≡ None)
  standing_asked tag tags later e =
      let a = passed tags TagOutOfRange _ e in
      let c = passed (named tag (outline_of b)) NoSuchSheet later a.1 in
      (sym (named_same tag) ∙ c.0, c.1)

  -- the sheet of an accepted call stands, but where it is opened
  pub stands-named : (call : Call) → ((tag : ℕ) → call ≡ Open tag → ⊥) → refusal_by b call ≡ None → named (tag_of call) before ≡ true
  stands-named (Open tag) other e = absurd (other tag refl)
  stands-named call other e = (standing_asked (tag_of call) _ _ e).0

  -- the question whether a row is one of its sheet
  row_asked : (tag row : ℕ) → or_else (is_row (rows_of 0 tag (outline_of b)) row) RowOutOfRange None ≡ None → (1 ≤ row) × (row ≤ size (rows_of leaf tag before))
  row_asked tag row e =
      let n = rows_of 0 tag (outline_of b) in
      let a = row_among n row (passed (is_row n row) RowOutOfRange None e).0 in
      let rows = rows_same tag in
      (a.0, omega arith)

  -- the rows that an accepted call is about are among those of its sheet, and the cells that it takes are among those unused
  pub askable : (call : Call) → Worked call → refusal_by b call ≡ None → Askable call (size (rows_of leaf (tag_of call) before)) (length sound.places)
  askable (Copy tag new) worked e =
      let a = standing_asked tag (is_tag tag && is_tag new) _ e in
      let c = passed (not (named new (outline_of b))) TagInUse _ a.1 in
      let d = passed (ltb (length (outline_of b)) 8) TooManySheets _ c.1 in
      let f = passed (such is_settled tag (outline_of b)) NotSettled _ d.1 in
      let g = passed (leb (total (outline_of b) + rows_of 0 tag (outline_of b)) b.capacity) NoRoom None f.1 in
      let room = room_found (rows_of 0 tag (outline_of b)) g.0 in
      let rows = rows_same tag in
      omega arith
  askable (Close tag) worked e = tt
  askable (Insert tag row kind) worked e =
      let a = standing_asked tag (is_tag tag) _ e in
      let c = passed (is_row (rows_of 0 tag (outline_of b) + 1) row) RowOutOfRange _ a.1 in
      let d = passed (leb (total (outline_of b) + 1) b.capacity) NoRoom None c.1 in
      let f = row_among (rows_of 0 tag (outline_of b) + 1) row c.0 in
      let rows = rows_same tag in
      (f.0, omega arith, room_found 1 d.0)
  askable (Strike tag row) worked e = row_asked tag row (standing_asked tag (is_tag tag) _ e).1
  askable (Replace tag row kind) worked e = row_asked tag row (standing_asked tag (is_tag tag) _ e).1
  askable (Recalculate tag) worked e = tt
  askable _ worked e = absurd worked

  -- a sheet that is copied is settled
  pub copied_settled : (tag new : ℕ) → refusal_by b (Copy tag new) ≡ None → such is_paused tag before ≡ false
  copied_settled tag new e =
      let a = standing_asked tag (is_tag tag && is_tag new) _ e in
      let c = passed (not (named new (outline_of b))) TagInUse _ a.1 in
      let d = passed (ltb (length (outline_of b)) 8) TooManySheets _ c.1 in
      let f = passed (such is_settled tag (outline_of b)) NotSettled _ d.1 in
      such-settled tag before (sym (state_same is_settled tag) ∙ f.0)

  -- the products of the sheet that is shown whole are true
  pub whole_true : (tag : ℕ) → refusal_by b (Whole tag) ≡ None → lawful ≡ true → True m (rows_of leaf tag before)
  whole_true tag e =
      let a = standing_asked tag (is_tag tag) _ e in
      settled-true tag (passed (such is_settled tag (outline_of b)) NotSettled None a.1).0

  -- so are the products of the sheet of which a range is shown
  pub range_true : (tag first last : ℕ) → refusal_by b (Range tag first last) ≡ None → lawful ≡ true → True m (rows_of leaf tag before)
  range_true tag first last e =
      let a = standing_asked tag (is_tag tag) _ e in
      settled-true tag (passed (such is_settled tag (outline_of b)) NotSettled _ a.1).0

  -- the rows of an accepted range are among those of the sheet
  pub range_within : (tag first last : ℕ) → refusal_by b (Range tag first last) ≡ None → (1 ≤ first) × (first ≤ size (rows_of leaf tag before) + 1) × (first ≤ last + 1) × (last ≤ size (rows_of leaf tag before))
  range_within tag first last e =
      let n = rows_of 0 tag (outline_of b) in
      let a = standing_asked tag (is_tag tag) _ e in
      let c = passed (such is_settled tag (outline_of b)) NotSettled _ a.1 in
      let d = passed (is_range n first last) RowOutOfRange None c.1 in
      let f = and_parts (is_row (n + 1) first) (leb first (last + 1) && leb last n) d.0 in
      let g = and_parts (leb first (last + 1)) (leb last n) f.1 in
      let h = row_among (n + 1) first f.0 in
      let rows = rows_same tag in
      let i = leb-true first (last + 1) g.0 in
      let j = leb-true last n g.1 in
      (h.0, omega arith, i, omega arith)
