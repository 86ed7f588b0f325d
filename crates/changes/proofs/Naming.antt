-- What is promised of a variant of a call is promised of the call that is this variant.
use Rattle.std.proofs.Common.{◌≡◌, ℕ, List, Option, sym, refl, ap, subst}
use Rattle.monoid.specs.Meaning.{Meaning}
use Rattle.plain.specs.declared.call.Call.{Call}
use Rattle.cells.specs.declared.cell.Cell.{Cell}
use Rattle.unused.specs.declared.list.Unused.{Unused}
use Rattle.changes.specs.declared.change.Part.{Part}
use Rattle.changes.specs.declared.change.Change.{Change}
use Rattle.changes.specs.Changes.{ChangesCells, CallChanges}

module _ {S E : Type 0} {meaning : S → Meaning E} {orderly : S → Type 0} {tally : S → ℕ} {before after : S} {x y : List (Cell E)} {part : Part} {call variant : Call} {out : Option Change} (is : call ≡ variant) where
  pub changes_as : CallChanges meaning orderly tally before after x y part variant out → CallChanges meaning orderly tally before after x y part call out
  changes_as changes = subst (λ (v : Call). CallChanges meaning orderly tally before after x y part v out) (sym is) changes

-- a call that asks no recogniser leaves it as it is, in order or not
pub unasked_as : {S E : Type 0} {meaning : S → Meaning E} {orderly : S → Type 0} {tally : S → ℕ} {s : S} {x y : List (Cell E)} {part : Part} {call variant : Call} {out : Option Change} → call ≡ variant → ChangesCells (meaning s) (Unit {0}) (tally s) (tally s) x y part variant out → CallChanges meaning orderly tally s s x y part call out
unasked_as is changes = changes_as is (record {
  value = λ t is found asked.
      let d = changes t is found asked in
      record { tree = d.tree; first = d.first; places = d.places; given = d.given; changed = d.changed; word = d.word; truth = λ order. d.truth tt; cost = d.cost; spares = d.spares };
  same = refl;
  order = λ o. o;
})

-- where the unused cells begin
pub at_unused : (P : Option ℕ → Type 0) (part : Part) (unused : Unused) → unused ≡ record { first = part.unused } → P unused.first → P part.unused
at_unused P part unused is p = subst P (ap {A = Unused} (λ v. v.first) is) p
