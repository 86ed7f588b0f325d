-- What every call promises, of those that change, make or free the tree of one sheet.
use Rattle.std.proofs.Common.{◌≡◌, ℕ, ◌+◌, ◌%◌, ◌^◌, ◌<◌, ◌≤◌, max, true, false, cond, ◌&&◌, [], length, sym, refl, ap, ◌∙◌, subst, ap₂, ◌⊎◌, ⊎_elim, arith}
use Rattle.std.proofs.lemmas.Bool.{cond_both}
use Rattle.monoid.specs.Meaning.{Meaning}
use Rattle.plain.specs.declared.state.State.{State}
use Rattle.plain.specs.declared.state.State.TheVariants.{Settled}
use Rattle.plain.specs.declared.call.Call.{Call}
use Rattle.plain.specs.declared.call.Call.TheVariants.{Open, Recalculate}
use Rattle.plain.specs.Forms.{Edit, replaces, Effect, copies, closes, edits, recalculates, looks, form, shows_of}
use Rattle.plain.specs.Calls.{tag_of}
use Rattle.plain.specs.Sheets.{restated, edited, is_paused, named, rows_of}
use Rattle.plain.specs.Steps.{done, after}
use Rattle.cells.specs.Trees.{Tree, leaf, rows, size}
use Rattle.cells.specs.Counts.{Spent}
use Rattle.cells.proofs.Frame.{rows_long}
use Rattle.cells.specs.Truth.{True}
use Rattle.changes.specs.Changes.{word_left, word_after, state_after}
use Rattle.changes.specs.Costs.{is_edit, most_of, dearest, dearest_in}
use Rattle.changes.specs.Spared.{spares, Spares}
use Rattle.calls.specs.Models.{Model, plain_of, with_tree}
use Rattle.calls.specs.Steps.{shows_lamps, most_rows, asks_lamps}
use Rattle.calls.specs.Ways.{works_tree, Worked, keeps_cells, KeepsCells, keeps_records, KeepsRecords}
use Rattle.calls.proofs.Lookups.{rows-altered, rows-append}
use Rattle.calls.proofs.Finding.{rows-map}

-- none of them shows lamps
dark_effect : (effect : Effect) → works_tree effect → shows_lamps (shows_of effect) ≡ false
dark_effect (looks shows) worked = absurd worked
dark_effect _ worked = refl

pub dark_worked : (call : Call) → Worked call → asks_lamps call ≡ false
dark_worked call worked = dark_effect (form call).effect worked

pub not_open : (call : Call) → Worked call → (tag : ℕ) → call ≡ Open tag → ⊥
not_open call worked tag e = subst Worked e worked

-- they change cells and records
effect_moves : (effect : Effect) → works_tree effect → keeps_cells effect ⊎ keeps_records effect → ⊥
effect_moves (copies new) worked kept = ⊎_elim (λ k. k) (λ k. k) kept
effect_moves closes worked kept = ⊎_elim (λ k. k) (λ k. k) kept
effect_moves (edits e) worked kept = ⊎_elim (λ k. k) (λ k. k) kept
effect_moves recalculates worked kept = ⊎_elim (λ k. k) (λ k. k) kept
effect_moves _ worked kept = worked

pub worked_moves : (call : Call) → Worked call → KeepsCells call ⊎ KeepsRecords call → ⊥
worked_moves call worked kept = effect_moves (form call).effect worked kept

-- the rise of a tally that was spent is no more than what might be spent
pub within_spent : (most told tells n : ℕ) → Spent most told tells → tells ≡ (told + n) % 2 ^ 64 → n < 2 ^ 64 → n ≤ most
within_spent most told tells n spent is small =
    let low = spent.1 in
    let asked = spent.2 in
    omega arith

-- what an edit may ask for, by the state of its sheet
pub cheaper : (s : State) (call : Call) (n k : ℕ) → k ≤ dearest_in s call n → k ≤ dearest call n
cheaper s call n k le = cond_both (is_edit call && is_paused s) 0 (dearest call n) (λ v. k ≤ v → k ≤ dearest call n) (λ e h. omega arith) (λ e h. h) le

pub quiet_none : (s : State) (call : Call) (n k : ℕ) → k ≤ dearest_in s call n → is_edit call ≡ true → is_paused s ≡ true → k ≡ 0
quiet_none s call n k le edit paused = let e : dearest_in s call n ≡ 0 = ap₂ (λ a b. cond (a && b) 0 (dearest call n)) edit paused in omega arith

module _ {E : Type 0} (before : Model E) (u : Tree E) where
  module _ (tag : ℕ) (stands : named tag before ≡ true) where
    abbrev t : Tree E
    t = rows_of leaf tag before

    -- the rows of the sheet afterwards: of one that is copied the same
    rows_copied : (new : ℕ) → rows_of leaf tag (done (with_tree u) (copies new) tag before) ≡ t
    rows_copied new = rows-append tag leaf before _ stands

    rows_edited : (e : Edit) → rows_of leaf tag (done (with_tree u) (edits e) tag before) ≡ u
    rows_edited e = rows-altered tag leaf u (edited (λ t. u)) (λ s. refl) (λ s. refl) before stands

    rows_renewed : rows_of leaf tag (done (with_tree u) recalculates tag before) ≡ u
    rows_renewed = rows-altered tag leaf u (λ s. restated Settled (edited (λ t. u) s)) (λ s. refl) (λ s. refl) before stands

    -- the greater of the sheet's rows before and after is that of two trees
    abbrev most : Model E → ℕ
    most after' = max (length (rows_of [] tag (plain_of before))) (length (rows_of [] tag (plain_of after')))

    long : (ss : Model E) (v : Tree E) → rows_of leaf tag ss ≡ v → size v ≡ length (rows_of [] tag (plain_of ss))
    long ss v is = sym (ap length (rows-map rows leaf tag ss) ∙ rows_long (rows_of leaf tag ss) ∙ ap size is)

    sizes : (after' : Model E) (v : Tree E) → rows_of leaf tag after' ≡ v → size u ≡ size v → max (size t) (size u) ≡ most after'
    sizes after' v is same = ap₂ max (long before t refl) (same ∙ long after' v is)

    -- closing asks for nothing anyhow
    dearest_left : (effect : Effect) → works_tree effect → rows u ≡ word_left effect (rows t) → most_of effect (max (size t) (size u)) ≡ most_of effect (most (done (with_tree u) effect tag before))
    dearest_left (copies new) worked word = ap (most_of (copies new)) (sizes _ t (rows_copied new) (sym (rows_long u) ∙ ap length word ∙ rows_long t))
    dearest_left closes worked word = refl
    dearest_left (edits e) worked word = ap (most_of (edits e)) (sizes _ u (rows_edited e) refl)
    dearest_left recalculates worked word = ap (most_of recalculates) (sizes _ u rows_renewed refl)
    dearest_left _ worked word = absurd worked

    -- the stored products that it leaves
    spared_left : (effect : Effect) → spares effect t u → spares effect t (rows_of leaf tag (done (with_tree u) effect tag before))
    spared_left (edits (replaces row kind)) kept = subst (λ (v : Tree E). spares (edits (replaces row kind)) t v) (sym (rows_edited (replaces row kind))) kept
    spared_left _ kept = tt

  pub dearest_then : (call : Call) → Worked call → named (tag_of call) before ≡ true → rows u ≡ word_after call (rows (rows_of leaf (tag_of call) before)) → dearest call (max (size (rows_of leaf (tag_of call) before)) (size u)) ≡ dearest call (most_rows (plain_of before) (plain_of (after (with_tree u) before call)) call)
  dearest_then call worked stands word = dearest_left (tag_of call) stands (form call).effect worked word

  pub spared_then : (call : Call) → Worked call → named (tag_of call) before ≡ true → Spares call (rows_of leaf (tag_of call) before) u → Spares call (rows_of leaf (tag_of call) before) (rows_of leaf (tag_of call) (after (with_tree u) before call))
  spared_then call worked stands kept = spared_left (tag_of call) stands (form call).effect kept

  -- where the tree of a sheet that was recalculated is true, so is that of the sheet
  pub renewed_then : (m : Meaning E) (call : Call) (s : State) → named (tag_of call) before ≡ true → (state_after call s ≡ Settled → True m u) → (tag : ℕ) → call ≡ Recalculate tag → True m (rows_of leaf tag (after (with_tree u) before call))
  renewed_then m call s stands truth tag is =
      subst (λ (c : Call). named (tag_of c) before ≡ true → (state_after c s ≡ Settled → True m u) → True m (rows_of leaf tag (after (with_tree u) before c))) (sym is)
      (λ there settled. subst (True m) (sym (rows_renewed tag there)) (settled refl))
      stands truth
