-- The records after an accepted call, by the sheets that they stand for.
use Rattle.std.proofs.Common.{◌≡◌, ℕ, suc, ◌<◌, Bool, true, false, cond, not, ◌&&◌, eqb, ltb, leb, List, [], ◌∷◌, ◌++◌, map, length, get_or, set, None, Option, sym, refl, ap, ◌∙◌, subst, ap₂, ◌⊎◌, ⊎_elim, arith}
use Rattle.std.proofs.lemmas.Bool.{ltb-true, eqb-true, and_parts, or_parts}
use Rattle.std.proofs.lemmas.List.{length-map}
use Rattle.rows.specs.declared.kind.Kind.{Kind}
use Rattle.plain.specs.declared.state.State.TheVariants.{Settled, Paused}
use Rattle.plain.specs.declared.call.Call.{Call}
use Rattle.plain.specs.declared.call.Call.TheVariants.{Open, Copy, Rename, Close, Insert, Strike, Replace, Pause, Recalculate}
use Rattle.plain.specs.Forms.{inserts, strikes, replaces}
use Rattle.plain.specs.Calls.{tag_of}
use Rattle.plain.specs.Sheets.{Sheet, fresh, retagged, restated, edited, across, named, rows_of, total, altered, without}
use Rattle.plain.specs.Questions.{is_tag, refusal_of}
use Rattle.plain.specs.Lawful.{tagged, lawful}
use Rattle.plain.specs.Steps.{after}
use Rattle.plain.specs.Plain.{counts}
use Rattle.plain.specs.declared.refusal.Refusal.TheVariants.{TagOutOfRange, NoSuchSheet, TagInUse, TooManySheets}
use Rattle.plain.proofs.Asking.{passed}
use Rattle.plain.proofs.Lawful.{after-lawful, copies-found}
use Rattle.plain.proofs.Mapping.{Carries, after_map, named-map, tagged-map}
use Rattle.plain.proofs.Tags.{altered-none, head_apart, tail_tagged}
use Rattle.records.specs.declared.record.Record.{Record}
use Rattle.records.specs.declared.records.Records.{Records}
use Rattle.records.specs.Entries.{entry, entries, place, blank, without_place}
use Rattle.records.specs.Views.{standing, outline_of}
use Rattle.records.specs.Changes.{Rooted, rooted, taken, taken_at, sheet_of, sheets_of}
use Rattle.records.proofs.Finding.{rows_rooted}
use Rattle.records.proofs.Within.{standing-length}

-- how many rows there are, whatever the root is
abbrev rows_only : Rooted → ℕ
rows_only x = x.0

counted : (root : Option ℕ) → Carries (rooted root) counts rows_only
counted root = record {
  none = refl;
  copy = λ x. refl;
  edit = λ e x. refl;
  renew = λ x. refl;
}

pub entries_of : (rs : List Record) → map (across rows_only) (map sheet_of rs) ≡ entries rs
entries_of [] = refl
entries_of (r ∷ rs) = ap (λ l. entry r ∷ l) (entries_of rs)

module _ (b : Records) (call : Call) (root : Option ℕ) (accepted : refusal_of b.capacity (outline_of b) call ≡ None) where
  -- the outline after the call is the plain one
  pub outline-after : (rs : List Record) → map sheet_of rs ≡ after (rooted root) (sheets_of b) call → entries rs ≡ after counts (outline_of b) call
  outline-after rs is =
      sym (entries_of rs)
      ∙ ap (map (across rows_only)) is
      ∙ after_map rows_only (counted root) (sheets_of b) call
      ∙ ap (λ ss. after counts ss call) (entries_of (standing b))

  pub lawful-after : (rs : List Record) → map sheet_of rs ≡ after (rooted root) (sheets_of b) call → lawful b.capacity (entries rs) ≡ true
  lawful-after rs is = ap (lawful b.capacity) (outline-after rs is) ∙ after-lawful b.capacity (outline_of b) b.ok call accepted

map-append : (rs : List Record) (r : Record) → map sheet_of (rs ++ (r ∷ [])) ≡ map sheet_of rs ++ (sheet_of r ∷ [])
map-append [] r = refl
map-append (s ∷ rs) r = ap (λ l. sheet_of s ∷ l) (map-append rs r)

-- changing what stands at the place of a tag is altering the sheet of the tag
pub map-set : (tag : ℕ) (f : Record → Record) (g : Sheet Rooted → Sheet Rooted) → ((r : Record) → sheet_of (f r) ≡ g (sheet_of r)) → (rs : List Record) → tagged (map sheet_of rs) ≡ true → (at : ℕ) → at ≡ place tag rs → map sheet_of (set rs at (f (get_or rs at blank))) ≡ altered tag g (map sheet_of rs)
map-set tag f g same [] distinct at found = refl
map-set tag f g same (r ∷ rs) distinct at found = ap (λ i. map sheet_of (set (r ∷ rs) i (f (get_or (r ∷ rs) i blank)))) found ∙ go (eqb r.tag tag) refl (map-set tag f g same rs (tail_tagged (sheet_of r) (map sheet_of rs) distinct) (place tag rs) refl)
  where
    go : (b : Bool) → eqb r.tag tag ≡ b → map sheet_of (set rs (place tag rs) (f (get_or rs (place tag rs) blank))) ≡ altered tag g (map sheet_of rs) → map sheet_of (set (r ∷ rs) (cond b 0 (suc (place tag rs))) (f (get_or (r ∷ rs) (cond b 0 (suc (place tag rs))) blank))) ≡ cond b (g (sheet_of r)) (sheet_of r) ∷ altered tag g (map sheet_of rs)
    go true here rest = ap₂ ◌∷◌ (same r) (sym (altered-none tag g (map sheet_of rs) (ap (λ t. named t (map sheet_of rs)) (sym (eqb-true r.tag tag here)) ∙ head_apart (sheet_of r) (map sheet_of rs) distinct)))
    go false here rest = ap (λ l. sheet_of r ∷ l) rest

-- a sheet that is not there is not taken out
without-none : (tag : ℕ) (ss : List (Sheet Rooted)) → named tag ss ≡ false → without tag ss ≡ ss
without-none tag [] h = refl
without-none tag (s ∷ ss) h =
    let parts = or_parts (eqb s.tag tag) (named tag ss) h in
    ap (λ b. cond b (without tag ss) (s ∷ without tag ss)) parts.0 ∙ ap (λ l. s ∷ l) (without-none tag ss parts.1)

pub map_removed : (tag : ℕ) (rs : List Record) → tagged (map sheet_of rs) ≡ true → (at : ℕ) → at ≡ place tag rs → map sheet_of (without_place at rs) ≡ without tag (map sheet_of rs)
map_removed tag [] distinct at found = refl
map_removed tag (r ∷ rs) distinct at found = ap (λ i. map sheet_of (without_place i (r ∷ rs))) found ∙ go (eqb r.tag tag) refl (map_removed tag rs (tail_tagged (sheet_of r) (map sheet_of rs) distinct) (place tag rs) refl)
  where
    go : (b : Bool) → eqb r.tag tag ≡ b → map sheet_of (without_place (place tag rs) rs) ≡ without tag (map sheet_of rs) → map sheet_of (without_place (cond b 0 (suc (place tag rs))) (r ∷ rs)) ≡ cond b (without tag (map sheet_of rs)) (sheet_of r ∷ without tag (map sheet_of rs))
    go true here rest = sym (without-none tag (map sheet_of rs) (ap (λ t. named t (map sheet_of rs)) (sym (eqb-true r.tag tag here)) ∙ head_apart (sheet_of r) (map sheet_of rs) distinct))
    go false here rest = ap (λ l. sheet_of r ∷ l) rest

module _ (b : Records) (root : Option ℕ) where
  distinct : tagged (sheets_of b) ≡ true
  distinct = sym (tagged-map rows_only (sheets_of b)) ∙ ap tagged (entries_of (standing b)) ∙ (and_parts (tagged (outline_of b)) (leb (total (outline_of b)) b.capacity) b.ok).0

  fewer : ltb (length (outline_of b)) 8 ≡ true → b.live < 8
  fewer h =
      let few : length (outline_of b) < 8 = ltb-true (length (outline_of b)) 8 h in
      let long : length (outline_of b) ≡ b.live = length-map (standing b) entry ∙ standing-length b in
      omega arith

  module _ (call : Call) where
    -- one sheet more
    pub record Appended (r : Record) : Type 0 where
      pub room : b.live < 8
      pub sheets : map sheet_of (standing b ++ (r ∷ [])) ≡ after (rooted root) (sheets_of b) call

    pub opened : (tag : ℕ) (r : Record) → call ≡ Open tag → r ≡ record { tag = tag; state = Settled; rows = 0; root = None } → refusal_of b.capacity (outline_of b) call ≡ None → Appended r
    opened tag r is made e =
        let a = passed (is_tag tag) TagOutOfRange _ (ap (refusal_of b.capacity (outline_of b)) (sym is) ∙ e) in
        let c = passed (not (named tag (outline_of b))) TagInUse _ a.1 in
        let d = passed (ltb (length (outline_of b)) 8) TooManySheets None c.1 in
        record {
          room = fewer d.0;
          sheets = map-append (standing b) r ∙ ap (λ t. sheets_of b ++ (sheet_of t ∷ [])) made ∙ ap (after (rooted root) (sheets_of b)) (sym is);
        }

    pub copied : (tag new rows : ℕ) (r : Record) → call ≡ Copy tag new → rows ≡ rows_of 0 tag (outline_of b) → r ≡ record { tag = new; state = Settled; rows = rows; root = root } → refusal_of b.capacity (outline_of b) call ≡ None → Appended r
    copied tag new rows r is counted_there made e =
        let a = passed (is_tag tag && is_tag new) TagOutOfRange _ (ap (refusal_of b.capacity (outline_of b)) (sym is) ∙ e) in
        let c = passed (named tag (outline_of b)) NoSuchSheet _ a.1 in
        let d = passed (not (named new (outline_of b))) TagInUse _ c.1 in
        let f = passed (ltb (length (outline_of b)) 8) TooManySheets _ d.1 in
        let stands : named tag (sheets_of b) ≡ true = sym (named-map rows_only tag (sheets_of b)) ∙ ap (named tag) (entries_of (standing b)) ∙ c.0 in
        record {
          room = fewer f.0;
          sheets =
              map-append (standing b) r
              ∙ ap (λ t. sheets_of b ++ (sheet_of t ∷ [])) made
              ∙ ap (λ n. sheets_of b ++ (fresh new (n, root) ∷ [])) (counted_there ∙ rows_rooted tag (standing b))
              ∙ ap (λ l. sheets_of b ++ l) (sym (copies-found (rooted root) tag new (0, None) (sheets_of b) stands))
              ∙ ap (after (rooted root) (sheets_of b)) (sym is);
        }

    -- one sheet fewer
    pub closed : (tag : ℕ) → call ≡ Close tag → map sheet_of (without_place (place tag (standing b)) (standing b)) ≡ after (rooted root) (sheets_of b) call
    closed tag is = map_removed tag (standing b) distinct (place tag (standing b)) refl ∙ ap (after (rooted root) (sheets_of b)) (sym is)

  changes : (tag : ℕ) (call : Call) (g : Sheet Rooted → Sheet Rooted) → ((r : Record) → sheet_of (taken call root r) ≡ g (sheet_of r)) → map sheet_of (taken_at (place tag (standing b)) call root (standing b)) ≡ altered tag g (sheets_of b)
  changes tag call g same = map-set tag (taken call root) g same (standing b) distinct (place tag (standing b)) refl

  -- what a call does to the record of its sheet it does to the sheet
  abbrev Moved : Call → Type 0
  Moved call = map sheet_of (taken_at (place (tag_of call) (standing b)) call root (standing b)) ≡ after (rooted root) (sheets_of b) call

  moved_as : {call other : Call} → call ≡ other → Moved other → Moved call
  moved_as is made = subst Moved (sym is) made

  moved_renamed : (tag new : ℕ) → Moved (Rename tag new)
  moved_renamed tag new = changes tag (Rename tag new) (retagged new) (λ s. refl)

  moved_inserted : (tag row : ℕ) (kind : Kind) → Moved (Insert tag row kind)
  moved_inserted tag row kind = changes tag (Insert tag row kind) (edited ((rooted root).edit (inserts row kind))) (λ s. refl)

  moved_struck : (tag row : ℕ) → Moved (Strike tag row)
  moved_struck tag row = changes tag (Strike tag row) (edited ((rooted root).edit (strikes row))) (λ s. refl)

  moved_replaced : (tag row : ℕ) (kind : Kind) → Moved (Replace tag row kind)
  moved_replaced tag row kind = changes tag (Replace tag row kind) (edited ((rooted root).edit (replaces row kind))) (λ s. refl)

  moved_paused : (tag : ℕ) → Moved (Pause tag)
  moved_paused tag = changes tag (Pause tag) (restated Paused) (λ s. refl)

  moved_recalculated : (tag : ℕ) → Moved (Recalculate tag)
  moved_recalculated tag = changes tag (Recalculate tag) (λ s. restated Settled (edited (rooted root).renew s)) (λ s. refl)

  -- the calls that neither make nor remove a sheet, and are no question
  abbrev Alters : Call → Type 0
  Alters call =
      ((tag new : ℕ) × (call ≡ Rename tag new))
      ⊎ (((tag row : ℕ) × (kind : Kind) × (call ≡ Insert tag row kind))
      ⊎ (((tag row : ℕ) × (call ≡ Strike tag row))
      ⊎ (((tag row : ℕ) × (kind : Kind) × (call ≡ Replace tag row kind))
      ⊎ (((tag : ℕ) × (call ≡ Pause tag))
      ⊎ ((tag : ℕ) × (call ≡ Recalculate tag))))))

  -- each of them changes the sheet of its tag
  pub moved : (call : Call) → Alters call → Moved call
  moved call alters =
      ⊎_elim (λ is. moved_as is.2 (moved_renamed is.0 is.1))
      (⊎_elim (λ is. moved_as is.3 (moved_inserted is.0 is.1 is.2))
      (⊎_elim (λ is. moved_as is.2 (moved_struck is.0 is.1))
      (⊎_elim (λ is. moved_as is.3 (moved_replaced is.0 is.1 is.2))
      (⊎_elim (λ is. moved_as is.1 (moved_paused is.0)) (λ is. moved_as is.1 (moved_recalculated is.0))))))
      alters
