-- Where the record of a tag stands, and what is read of it.
use Rattle.std.proofs.Common.{◌≡◌, ℕ, suc, ◌<◌, ◌≤◌, Bool, true, false, cond, ◌||◌, eqb, ltb, List, [], ◌∷◌, map, length, get_or, Some, None, sym, refl, ap, ◌∙◌, arith, position}
use Prim.Native.Nat.compare
use lib.Dec.{is_le}
use Rattle.std.specs.Option.{is_some, option_map_or}
use Rattle.std.specs.List.{find, slice_get, position_or_len}
use Rattle.std.proofs.lemmas.Bool.{ltb-true, ltb-false, lt-ltb}
use Rattle.std.proofs.lemmas.Option.{cond_some, none-some, slice_get-get_or, slice_get_past}
use Rattle.std.proofs.lemmas.List.Folds.{find_at}
use Rattle.std.proofs.lemmas.List.Recursion.{is_position_or_len}
use Rattle.plain.specs.declared.state.State.{State}
use Rattle.plain.specs.declared.state.State.TheVariants.{Settled}
use Rattle.plain.specs.Sheets.{named, such, state_in, rows_of}
use Rattle.records.specs.declared.record.Record.{Record}
use Rattle.records.specs.Entries.{entries, place, blank}
use Rattle.records.specs.Changes.{Rooted, sheet_of}

abbrev pub has : ℕ → Record → Bool
has tag r = eqb r.tag tag

-- what is read by tag is what is read of the record found
pub named_found : (tag : ℕ) (rs : List Record) → named tag (entries rs) ≡ is_some (find (has tag) rs)
named_found tag [] = refl
named_found tag (r ∷ rs) = go (eqb r.tag tag) (named_found tag rs)
  where
    go : (b : Bool) → named tag (entries rs) ≡ is_some (find (has tag) rs) → (b || named tag (entries rs)) ≡ is_some (cond b (Some r) (find (has tag) rs))
    go true rest = refl
    go false rest = rest

pub such_found : (is : State → Bool) (tag : ℕ) (rs : List Record) → such is tag (entries rs) ≡ option_map_or (λ (r : Record). is r.state) (find (has tag) rs) false
such_found is tag [] = refl
such_found is tag (r ∷ rs) = go (eqb r.tag tag) (such_found is tag rs)
  where
    go : (b : Bool) → such is tag (entries rs) ≡ option_map_or (λ (s : Record). is s.state) (find (has tag) rs) false → cond b (is r.state) (such is tag (entries rs)) ≡ option_map_or (λ (s : Record). is s.state) (cond b (Some r) (find (has tag) rs)) false
    go true rest = refl
    go false rest = rest

pub state_found : (tag : ℕ) (rs : List Record) → state_in tag (entries rs) ≡ option_map_or (λ (r : Record). r.state) (find (has tag) rs) Settled
state_found tag [] = refl
state_found tag (r ∷ rs) = go (eqb r.tag tag) (state_found tag rs)
  where
    go : (b : Bool) → state_in tag (entries rs) ≡ option_map_or (λ (s : Record). s.state) (find (has tag) rs) Settled → cond b r.state (state_in tag (entries rs)) ≡ option_map_or (λ (s : Record). s.state) (cond b (Some r) (find (has tag) rs)) Settled
    go true rest = refl
    go false rest = rest

pub rows_found : (tag : ℕ) (rs : List Record) → rows_of 0 tag (entries rs) ≡ option_map_or (λ (r : Record). r.rows) (find (has tag) rs) 0
rows_found tag [] = refl
rows_found tag (r ∷ rs) = go (eqb r.tag tag) (rows_found tag rs)
  where
    go : (b : Bool) → rows_of 0 tag (entries rs) ≡ option_map_or (λ (s : Record). s.rows) (find (has tag) rs) 0 → cond b r.rows (rows_of 0 tag (entries rs)) ≡ option_map_or (λ (s : Record). s.rows) (cond b (Some r) (find (has tag) rs)) 0
    go true rest = refl
    go false rest = rest

-- how many rows, and where their tree has its root
abbrev pub rooted_found : ℕ → List Record → Rooted
rooted_found tag rs = option_map_or (λ (r : Record). (r.rows, r.root)) (find (has tag) rs) (0, None)

pub rooted_lem : (tag : ℕ) (rs : List Record) → rows_of (0, None) tag (map sheet_of rs) ≡ rooted_found tag rs
rooted_lem tag [] = refl
rooted_lem tag (r ∷ rs) = go (eqb r.tag tag) (rooted_lem tag rs)
  where
    go : (b : Bool) → rows_of (0, None) tag (map sheet_of rs) ≡ rooted_found tag rs → cond b (r.rows, r.root) (rows_of (0, None) tag (map sheet_of rs)) ≡ option_map_or (λ (s : Record). (s.rows, s.root)) (cond b (Some r) (find (has tag) rs)) (0, None)
    go true rest = refl
    go false rest = rest

pub rows_rooted : (tag : ℕ) (rs : List Record) → rows_of 0 tag (entries rs) ≡ (rows_of (0, None) tag (map sheet_of rs)).0
rows_rooted tag [] = refl
rows_rooted tag (r ∷ rs) = go (eqb r.tag tag) (rows_rooted tag rs)
  where
    go : (b : Bool) → rows_of 0 tag (entries rs) ≡ (rows_of (0, None) tag (map sheet_of rs)).0 → cond b r.rows (rows_of 0 tag (entries rs)) ≡ (cond b (r.rows, r.root) (rows_of (0, None) tag (map sheet_of rs))).0
    go true rest = refl
    go false rest = rest

ltb-suc : (m n : ℕ) → ltb (suc m) (suc n) ≡ ltb m n
ltb-suc m n = ap is_le (compare.suc-suc (suc m) n)

-- a tag that stands has a place below the number of records
pub named-place : (tag : ℕ) (rs : List Record) → named tag (entries rs) ≡ ltb (place tag rs) (length rs)
named-place tag [] = refl
named-place tag (r ∷ rs) = go (eqb r.tag tag) (named-place tag rs)
  where
    go : (b : Bool) → named tag (entries rs) ≡ ltb (place tag rs) (length rs) → (b || named tag (entries rs)) ≡ ltb (cond b 0 (suc (place tag rs))) (suc (length rs))
    go true rest = sym (lt-ltb 0 (suc (length rs)) (omega arith))
    go false rest = rest ∙ sym (ltb-suc (place tag rs) (length rs))

-- the place of a tag is the first that has it, or how many there are
place_is : (tag : ℕ) (rs : List Record) → place tag rs ≡ position_or_len (has tag) rs
place_is tag rs = is_position_or_len (place tag) (has tag) refl (λ x xs. ap (cond (has tag x) 0) (omega arith)) rs

pub place_found : (tag : ℕ) (rs : List Record) (at : ℕ) → position (has tag) rs ≡ Some at → (at < length rs) × (at ≡ place tag rs)
place_found tag rs at h =
    let parts = cond_some (ltb (position_or_len (has tag) rs) (length rs)) (position_or_len (has tag) rs) at h in
    let before = ltb-true (position_or_len (has tag) rs) (length rs) parts.0 in
    let is = place_is tag rs in
    let same = parts.1 in
    (omega arith, omega arith)

pub place_missing : (tag : ℕ) (rs : List Record) → position (has tag) rs ≡ None → length rs ≤ place tag rs
place_missing tag rs h = go (ltb (position_or_len (has tag) rs) (length rs)) refl h
  where
    go : (b : Bool) → ltb (position_or_len (has tag) rs) (length rs) ≡ b → cond b (Some (position_or_len (has tag) rs)) None ≡ None → length rs ≤ place tag rs
    go true is e = absurd (none-some (position_or_len (has tag) rs) (sym e))
    go false is e = let same = place_is tag rs in omega (arith, ltb-false (position_or_len (has tag) rs) (length rs) is)

-- the record of a tag is the one at its place
pub found_at : (tag : ℕ) (rs : List Record) (at : ℕ) → position (has tag) rs ≡ Some at → find (has tag) rs ≡ Some (get_or rs at blank)
found_at tag rs at h =
    let there = place_found tag rs at h in
    find_at (has tag) rs ∙ ap (slice_get rs) (sym (there.1 ∙ place_is tag rs)) ∙ slice_get-get_or rs at blank there.0

pub found_nowhere : (tag : ℕ) (rs : List Record) → position (has tag) rs ≡ None → find (has tag) rs ≡ None
found_nowhere tag rs h =
    let same = place_is tag rs in
    let past = place_missing tag rs h in
    find_at (has tag) rs ∙ slice_get_past rs (position_or_len (has tag) rs) (omega arith)
