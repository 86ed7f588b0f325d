-- From the answer to a line the fault of the line is read back, or the book's refusal of its call.
use Rattle.std.proofs.Common.{◌≡◌, ℕ, ◌^◌, ◌<◌, ◌≤◌, Bool, List, [], Some, None, Ok, Err, Option, Result, refl, ap, ◌∙◌, arith}
use Rattle.std.specs.Option.{option_map}
use Rattle.monoid.specs.Words.{Word}
use Rattle.plain.specs.Plain.{PlainBook, refusal, number, unless}
use Rattle.plain.specs.Refusals.{refusal_number, number_of}
use Rattle.plain.specs.declared.call.Call.{Call}
use Rattle.plain.specs.declared.refusal.Refusal.{Refusal}
use Rattle.plain.specs.declared.refusal.Refusal.TheVariants.{TagOutOfRange, NoSuchSheet, TagInUse, TooManySheets, NotSettled, NotPaused, RowOutOfRange, NoRoom, BrokenCells}
use Rattle.script.specs.Faults.{cause_number, cause_of, fault}
use Rattle.script.specs.declared.fault.Cause.{Cause}
use Rattle.script.specs.declared.fault.Cause.TheVariants.{LineTooLong, NoCommand, WrongFieldCount, BadNumber, BadKind, Refused}
use Rattle.script.specs.declared.fault.Fault.{Fault}
use Rattle.listing.specs.Listings.{shown, answered, fault_due}
use Rattle.listing.specs.Tells.{fault_with, fault_read}
use Rattle.listing.proofs.Fields.{fault_written}

refusal_told : (r : Refusal) → (cause_of (refusal_number r) ≡ Some (Refused r)) × (refusal_number r ≤ 9)
refusal_told TagOutOfRange = (refl, omega arith)
refusal_told NoSuchSheet = (refl, omega arith)
refusal_told TagInUse = (refl, omega arith)
refusal_told TooManySheets = (refl, omega arith)
refusal_told NotSettled = (refl, omega arith)
refusal_told NotPaused = (refl, omega arith)
refusal_told RowOutOfRange = (refl, omega arith)
refusal_told NoRoom = (refl, omega arith)
refusal_told BrokenCells = (refl, omega arith)

cause_told : (c : Cause) → (cause_of (cause_number c) ≡ Some c) × (cause_number c ≤ 35)
cause_told LineTooLong = (refl, omega arith)
cause_told NoCommand = (refl, omega arith)
cause_told WrongFieldCount = (refl, omega arith)
cause_told BadNumber = (refl, omega arith)
cause_told BadKind = (refl, omega arith)
cause_told (Refused r) = let told = refusal_told r in (told.0, omega (arith, told.1))

refused_told : (line : ℕ) (o : Option Refusal) → (fault_with line (number_of o) 0 ≡ option_map (λ refused. fault (Refused refused) line 0) o) × (number_of o ≤ 9)
refused_told line None = (refl, omega arith)
refused_told line (Some r) = let told = refusal_told r in (ap (option_map (λ cause. fault cause line 0)) told.0, told.1)

pub told_answered : (lamps : Word → List Bool) (capacity line : ℕ) (book : PlainBook) (says : Result Call Fault) → line < 2 ^ 64 → ((f : Fault) → says ≡ Err f → (f.line ≡ line) × (f.field ≤ 4))
    → fault_read (answered lamps capacity line book says) ≡ fault_due capacity line book says
told_answered lamps capacity line book (Ok call) small placed =
    let told = refused_told line (refusal capacity book call) in
    fault_written line (number capacity book call) 0 (unless (refusal capacity book call) (shown lamps book call) []) small (omega (arith, told.1)) (omega arith) ∙ told.0
told_answered lamps capacity line book (Err f) small placed =
    let told = cause_told f.cause in
    let at = placed f refl in
    fault_written f.line (cause_number f.cause) f.field [] (omega (arith, at.0, small)) (omega (arith, told.1)) (omega (arith, at.1))
    ∙ ap (option_map (λ cause. fault cause f.line f.field)) told.0
