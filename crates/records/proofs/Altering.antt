-- The records that stand, after one was changed, put in or taken out.
use Rattle.std.proofs.Common.{◌≡◌, ℕ, ◌+◌, ◌-◌, ◌<◌, ◌≤◌, List, [], ◌∷◌, ◌++◌, length, get_or, take, drop, set, position, Some, None, Option, sym, refl, ap, ◌∙◌, zero, suc, arith}
use borrow.Rule.Slice.PartMut.{put_mid}
use lib.Seq.{take-set-lt}
use Rattle.std.proofs.lemmas.List.{set_past}
use Rattle.plain.specs.declared.call.Call.{Call}
use Rattle.records.specs.declared.record.Record.{Record}
use Rattle.records.specs.declared.records.Records.{Records}
use Rattle.records.specs.Entries.{place, blank, without_place}
use Rattle.records.specs.Views.{standing}
use Rattle.records.specs.Changes.{taken, taken_at}
use Rattle.records.proofs.Finding.{has, place_found, place_missing}
use Rattle.records.proofs.Within.{standing-length, standing_at}
use Rattle.records.proofs.Storing.{take_put, turned}

without_past : {X : Type 0} (xs : List X) (i : ℕ) → length xs ≤ i → without_place i xs ≡ xs
without_past [] i h = refl
without_past (y ∷ ys) zero h = absurd (omega arith)
without_past (y ∷ ys) (suc i) h = ap (λ l. y ∷ l) (without_past ys i (omega arith))

-- where the look-up of a tag finds a record, and where it finds none
module _ (b : Records) (told tag : ℕ) (same : told ≡ tag) (found : Option ℕ) (is : found ≡ position (has told) (standing b)) where
  found_is : found ≡ position (has tag) (standing b)
  found_is = is ∙ ap (λ t. position (has t) (standing b)) same

  pub found_there : (at : ℕ) → found ≡ Some at → (at < b.live) × (at ≡ place tag (standing b))
  found_there at e =
      let h = place_found tag (standing b) at (sym found_is ∙ e) in
      let within = h.0 in
      let long = standing-length b in
      (omega arith, h.1)

  nowhere : found ≡ None → length (standing b) ≤ place tag (standing b)
  nowhere e = place_missing tag (standing b) (sym found_is ∙ e)

  pub altered_there : (at : ℕ) (call : Call) (root : Option ℕ) (r : Record) → found ≡ Some at → r ≡ taken call root (get_or b.records at blank) → take b.live (set b.records at r) ≡ taken_at (place tag (standing b)) call root (standing b)
  altered_there at call root r e taken_is =
      let h = found_there at e in
      take-set-lt b.live b.records at r h.0
      ∙ ap (set (standing b) at) (taken_is ∙ ap (taken call root) (sym (standing_at b at h.0)))
      ∙ ap (λ i. taken_at i call root (standing b)) h.1

  pub altered_nowhere : (call : Call) (root : Option ℕ) → found ≡ None → standing b ≡ taken_at (place tag (standing b)) call root (standing b)
  altered_nowhere call root e = sym (set_past (standing b) (place tag (standing b)) (taken call root (get_or (standing b) (place tag (standing b)) blank)) (nowhere e))

  pub removed_there : (at : ℕ) (turned_part : List Record) → found ≡ Some at → turned_part ≡ drop 1 (take (8 - at) (drop at b.records)) ++ take 1 (take (8 - at) (drop at b.records)) → take (b.live - 1) (put_mid at (8 - at) b.records turned_part) ≡ without_place (place tag (standing b)) (standing b)
  removed_there at part e after =
      let h = found_there at e in
      let before = h.0 in
      let eight = b.eight in
      let few = b.few in
      let one : suc (b.live - 1) ≡ b.live = omega arith in
      turned b.records (b.live - 1) at (8 - at) part (omega arith) (omega arith) (omega arith) after
      ∙ ap (λ n. without_place at (take n b.records)) one
      ∙ ap (λ i. without_place i (standing b)) h.1

  pub removed_nowhere : found ≡ None → standing b ≡ without_place (place tag (standing b)) (standing b)
  removed_nowhere e = sym (without_past (standing b) (place tag (standing b)) (nowhere e))

pub standing_appended : (b : Records) (r : Record) → b.live < 8 → take (b.live + 1) (set b.records b.live r) ≡ standing b ++ (r ∷ [])
standing_appended b r room = let eight = b.eight in take_put b.records b.live r (omega arith)
