-- What holds of every line that is taken apart: calls are read as they are written, and a fault stands at its place.
use Rattle.std.specs.Prelude.{◌≡◌, ℕ, ◌≤◌, Ok, Err, Result}
use Rattle.plain.specs.declared.call.Call.{Call}
use Rattle.script.specs.declared.fault.Fault.{Fault}
use Rattle.script.specs.Parts.{Bytes}
use Rattle.script.specs.Written.{written, Sayable}

pub record Faithful (number : ℕ) (line : Bytes) (says : Result Call Fault) : Type 0 where
  -- a call written as a line is read back as that call
  pub back : (call : Call) → Sayable call → line ≡ written call → says ≡ Ok call
  -- and a line says only calls that can be written
  pub sayable : (call : Call) → says ≡ Ok call → Sayable call
  -- a fault has the number of its line, and the place of one of its fields, or 0
  pub place : (fault : Fault) → says ≡ Err fault → (fault.line ≡ number) × (fault.field ≤ 4)
