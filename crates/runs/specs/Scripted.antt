-- The calls that lines of a script say.
use Rattle.std.specs.Prelude.{ℕ, ◌+◌, List, [], ◌∷◌, Ok, Err, Result}
use Rattle.plain.specs.declared.call.Call.{Call}
use Rattle.script.specs.Said.{said}
use Rattle.script.specs.Parts.{Bytes}
use Rattle.script.specs.declared.fault.Fault.{Fault}

-- a call before others, where a line says one
abbrev pub before_all : Result Call Fault → List Call → List Call
before_all (Ok call) calls = call ∷ calls
before_all (Err fault) calls = calls

-- the calls that lines say, of which `done` stand before them
abbrev pub calls_said : ℕ → List Bytes → List Call
calls_said done [] = []
calls_said done (line ∷ rest) = before_all (said (done + 1) line) (calls_said (done + 1) rest)
