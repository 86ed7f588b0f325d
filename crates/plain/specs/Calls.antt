-- The sheets that a call names: the one that it is about, and those that it names besides.
use Rattle.std.specs.Prelude.{ℕ, Bool, false, ◌||◌, List, [], ◌∷◌, ◌==◌}
use Rattle.plain.specs.declared.call.Call.{Call}
use Rattle.plain.specs.Forms.{form, tags_of}

-- the tag of the sheet that a call is about
abbrev pub tag_of : Call → ℕ
tag_of call = (form call).tag

abbrev pub among : List ℕ → ℕ → Bool
among [] t = false
among (tag ∷ []) t = tag == t
among (tag ∷ (other ∷ tags)) t = tag == t || among (other ∷ tags) t

-- whether a call names a tag
abbrev pub names : Call → ℕ → Bool
names call t = among (tags_of (form call).effect (tag_of call)) t
