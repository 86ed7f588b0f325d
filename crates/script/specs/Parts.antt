-- A text parted at a mark: its first part, what stands past that, and all its parts; and parts joined by marks.
use Rattle.std.specs.Prelude.{ℕ, Bool, not, cond, List, [], ◌∷◌, ◌++◌, ◌==◌}
use Rattle.std.specs.List.{flat_map, list_all}

abbrev pub Bytes : Type 0
Bytes = List ℕ

-- what stands before the first mark; all, where there is none
abbrev pub upto : ℕ → Bytes → Bytes
upto mark [] = []
upto mark (b ∷ bs) = cond (b == mark) [] (b ∷ upto mark bs)

-- what stands past the first mark; nothing, where there is none
abbrev pub past : ℕ → Bytes → Bytes
past mark [] = []
past mark (b ∷ bs) = cond (b == mark) bs (past mark bs)

-- a byte put before the first part
abbrev pub onto : ℕ → List Bytes → List Bytes
onto b [] = (b ∷ []) ∷ []
onto b (part ∷ parts) = (b ∷ part) ∷ parts

-- the parts between the marks; at the end of the text stand those of `last`
abbrev pub parted : ℕ → List Bytes → Bytes → List Bytes
parted mark last [] = last
parted mark last (b ∷ bs) = cond (b == mark) ([] ∷ parted mark last bs) (onto b (parted mark last bs))

-- the mark stands nowhere in the text
abbrev pub is_free_of : ℕ → Bytes → Bool
is_free_of mark text = list_all (λ b. not (b == mark)) text

-- the parts with a mark between each and the next
abbrev pub joined : ℕ → List Bytes → Bytes
joined mark [] = []
joined mark (part ∷ parts) = part ++ flat_map (λ next. mark ∷ next) parts

-- the parts with a mark behind each
abbrev pub ended_by : ℕ → List Bytes → Bytes
ended_by mark parts = flat_map (λ part. part ++ (mark ∷ [])) parts

-- the text with a mark put behind it, where it does not end in one
abbrev pub closed : ℕ → Bytes → Bytes
closed mark [] = []
closed mark (b ∷ []) = cond (b == mark) (b ∷ []) (b ∷ (mark ∷ []))
closed mark (b ∷ (c ∷ cs)) = b ∷ closed mark (c ∷ cs)
