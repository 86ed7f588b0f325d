-- What every call promises, of those that change, make or free the tree of one sheet, from what came of the cells.
use Rattle.std.proofs.Common.{◌≡◌, ℕ, ◌+◌, ◌%◌, ◌^◌, ◌<◌, ◌≤◌, min, Bool, true, List, ◌++◌, length, take, drop, Some, None, Option, sym, ap, ◌∙◌, subst, inl, inr, arith}
use Rattle.cells.proofs.Lookup.{none-some}
use Rattle.monoid.specs.Meaning.{Meaning}
use Rattle.plain.specs.declared.state.State.TheVariants.{Settled}
use Rattle.plain.specs.declared.call.Call.{Call}
use Rattle.plain.specs.Calls.{tag_of}
use Rattle.plain.specs.Sheets.{is_paused, such, named, state_in, rows_of}
use Rattle.plain.specs.Steps.{after}
use Rattle.records.specs.declared.records.Records.{Records}
use Rattle.records.specs.Views.{standing, outline_of, refusal_by}
use Rattle.records.specs.Changes.{Committed, sheets_of}
use Rattle.records.proofs.Committing.{outline-after}
use Rattle.cells.specs.declared.cell.Cell.{Cell}
use Rattle.cells.specs.Trees.{leaf, link}
use Rattle.cells.specs.Truth.{True}
use Rattle.changes.specs.declared.change.Part.{Part}
use Rattle.changes.specs.declared.change.Change.{Change}
use Rattle.changes.specs.Costs.{AsksNothing}
use Rattle.changes.specs.Changes.{Changed, ChangeMade, ChangesCells, was, state_after}
use Rattle.calls.specs.declared.outcome.Outcome.{Outcome}
use Rattle.calls.specs.Models.{Model, with_tree}
use Rattle.calls.specs.Sound.{own, Sound}
use Rattle.calls.specs.Steps.{Step}
use Rattle.calls.specs.Ways.{Worked, dark, Concludes}
use Rattle.calls.specs.Calls.{Accepted, Called}
use Rattle.calls.proofs.Outlining.{model_tagged}
use Rattle.calls.proofs.Sizes.{carries_words, carries_rooted}
use Rattle.calls.proofs.Changing.{state_by, left_by, sound_left}
use Rattle.calls.proofs.Finding.{found, askable, paused_same, state_told, truth_found, copied_settled, stands-named, state_same, places_apart}
use Rattle.calls.proofs.Enough.{enough}
use Rattle.calls.proofs.Lent.{beyond_same, lent_are, became}
use Rattle.calls.proofs.Stepping.{step-dark}
use Rattle.calls.proofs.Worked.{dark_worked, worked_moves, not_open, within_spent, cheaper, quiet_none, dearest_then, spared_then, renewed_then}

module _ {S E : Type 0} (meaning : S → Meaning E) (orderly : S → Type 0) (tally : S → ℕ) (b b' : Records) (x z : List (Cell E)) (s s' : S) (call : Call) (worked : Worked call) (accepted : refusal_by b call ≡ None) (tag within count : ℕ) (part : Part) (change : Option Change) (r : Outcome) (tag_is : tag ≡ tag_of call) (root_is : part.root ≡ (rows_of (0, None) tag (sheets_of b)).1) (state_is : part.state ≡ state_in tag (outline_of b)) (unused_is : part.unused ≡ b.unused) (within_is : within ≡ min b.capacity (length x)) (kept : length z ≡ length (take within x)) (changes : ChangesCells (meaning s) (orderly s) (tally s) (tally s') (take within x) z part call change) (same : meaning s' ≡ meaning s) (order : orderly s → orderly s') (risen : tally s' ≡ (tally s + count) % 2 ^ 64) (small : count < 2 ^ 64) (unasked : AsksNothing call → s' ≡ s) (concludes : Concludes b b' call change count r) where
  y : List (Cell E)
  y = z ++ drop within x

  -- the records, whatever the cells hold
  answered : (change' : Option Change) → Concludes b b' call change' count r → Accepted b b' call r × (b'.capacity ≡ b.capacity)
  answered None concludes' =
      let is = concludes'.1 in
      (inr (ap (λ (v : Outcome). v.refusal) is, concludes'.0, ap (λ (v : Outcome). v.lamps) is), ap (λ (v : Records). v.capacity) concludes'.0)
  answered (Some c) concludes' =
      let done = concludes' accepted in
      let committed = done.0 in
      let is = done.1 in
      (inl (ap (λ (v : Outcome). v.refusal) is, outline-after b call c.root accepted (standing b') committed.sheets), committed.capacity)

  module _ (lawful : Bool) (ordered : lawful ≡ true → orderly s) (before : Model E) (sound : Sound lawful (meaning s) b x before) where
    stands : named (tag_of call) before ≡ true
    stands = stands-named sound call (not_open call worked) accepted

    -- the call finds what it wants
    made : ChangeMade (meaning s) (orderly s) (tally s) (tally s') (own b x) z part call (rows_of leaf (tag_of call) before) sound.places change
    made =
        let here : ChangesCells (meaning s) (orderly s) (tally s) (tally s') (own b x) z part call change = subst (λ (cells : List (Cell E)). ChangesCells (meaning s) (orderly s) (tally s) (tally s') cells z part call change) (lent_are b.capacity within x z within_is kept (enough sound)) changes in
        here (rows_of leaf (tag_of call) before) sound.places
        (found sound (tag_of call) part (subst (λ (q : ℕ). part.root ≡ (rows_of (0, None) q (sheets_of b)).1) tag_is root_is) unused_is)
        (askable sound call worked accepted)

    done : Committed b b' call (link made.tree) made.first × (r ≡ dark None count)
    done = subst (λ (c : Option Change). Concludes b b' call c count r) made.given concludes accepted

    own-after : own b' (z ++ drop within x) ≡ z
    own-after = ap (λ n. take n (z ++ drop within x)) done.0.capacity ∙ became b.capacity within x z within_is kept (enough sound)

    state_there : part.state ≡ state_in (tag_of call) (outline_of b)
    state_there = subst (λ (q : ℕ). part.state ≡ state_in q (outline_of b)) tag_is state_is

    paused_there : is_paused part.state ≡ such is_paused (tag_of call) before
    paused_there = ap is_paused state_there ∙ paused_same sound (tag_of call)

    truth : lawful ≡ true → state_after call (state_by (such is_paused (tag_of call) before)) ≡ Settled → True (meaning s) made.tree
    truth law settled =
        let by : state_by (such is_paused (tag_of call) before) ≡ part.state = ap state_by (sym (state_same sound is_paused (tag_of call))) ∙ sym (state_told (tag_of call) (outline_of b)) ∙ sym state_there in
        made.truth (ordered law) (λ st. truth_found sound (tag_of call) law (sym state_there ∙ st)) (ap (state_after call) (sym by) ∙ settled)

    sound_after : Sound lawful (meaning s) b' (z ++ drop within x) (after (with_tree made.tree) before call)
    sound_after =
        let u = made.tree in
        let changed = subst (λ (cells : List (Cell E)). Changed (own b x) cells (was call (rows_of leaf (tag_of call) before)) u sound.places made.places made.first) (sym own-after) made.changed in
        sound_left lawful (meaning s) b b' x (z ++ drop within x) before u call made.first made.places sound done.0
        (carries_rooted (rows_of leaf (tag_of call) before) u call (length sound.places) (askable sound call worked accepted) made.word)
        changed
        (left_by lawful (meaning s) (own b x) (own b' (z ++ drop within x)) sound.places made.places made.first u before (model_tagged b before sound.said) (places_apart sound) sound.held call worked stands made.word changed truth (λ source new is. copied_settled sound source new (ap (refusal_by b) (sym is) ∙ accepted)))

    step : Step lawful (meaning s) b.capacity before call (dark None count) (after (with_tree made.tree) before call)
    step =
        let u = made.tree in
        let spent = within_spent _ (tally s) (tally s') count made.cost risen small in
        step-dark lawful (meaning s) b x before call u count sound accepted (dark_worked call worked)
        (carries_words (rows_of leaf (tag_of call) before) u call (length sound.places) (askable sound call worked accepted) made.word)
        (subst (λ (n : ℕ). count ≤ n) (dearest_then before u call worked stands made.word) (cheaper part.state call _ count spent))
        (λ edit paused. quiet_none part.state call _ count spent edit (paused_there ∙ paused))
        (spared_then before u call worked stands made.spares)
        (λ law. renewed_then before u (meaning s) call (state_by (such is_paused (tag_of call) before)) stands (truth law))

  pub worked_called : Called meaning orderly tally b b' x (z ++ drop within x) s s' call r
  worked_called =
      let answer = answered change concludes in
      record {
        declined = λ reason e. absurd (none-some (sym accepted ∙ e));
        accepted = λ e. answer.0;
        capacity = answer.1;
        outside = beyond_same b.capacity within x z within_is kept;
        cells_kept = λ k. absurd (worked_moves call worked (inl k));
        records_kept = λ k. absurd (worked_moves call worked (inr k));
        recogniser_kept = unasked;
        unasked = λ k. count_by change concludes ∙ no_count k;
        same = same;
        order = order;
        counted = risen_by change concludes;
        works = λ lawful ordered before sound. (
          after (with_tree (made lawful ordered before sound).tree) before call,
          subst (λ (v : Outcome). Step lawful (meaning s) b.capacity before call v (after (with_tree (made lawful ordered before sound).tree) before call)) (sym (done lawful ordered before sound).1) (step lawful ordered before sound),
          sound_after lawful ordered before sound,
        );
      }
    where
      count_by : (c : Option Change) → Concludes b b' call c count r → r.count ≡ count
      count_by None done' = ap (λ (v : Outcome). v.count) done'.1
      count_by (Some c) done' = ap (λ (v : Outcome). v.count) (done' accepted).1

      no_count : AsksNothing call → count ≡ 0
      no_count k = let same_tally : tally s' ≡ tally s = ap tally (unasked k) in omega arith

      risen_by : (c : Option Change) → Concludes b b' call c count r → tally s' ≡ (tally s + r.count) % 2 ^ 64
      risen_by c done' = risen ∙ ap (λ k. (tally s + k) % 2 ^ 64) (sym (count_by c done'))
