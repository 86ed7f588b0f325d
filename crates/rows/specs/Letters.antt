-- The letter of each kind of row, and the kind that a letter stands for.
use Rattle.std.specs.Prelude.{ℕ, cond, List, [], ◌∷◌, Some, None, Option, ◌==◌}
use Rattle.rows.specs.declared.kind.Kind.{Kind}
use Rattle.rows.specs.declared.kind.Kind.TheVariants.{Heading, Item, RateOnly, ProvisionalSum, Note, Collection, Summary, Blank}

-- H, I, R, P, N, C, S and B, by their codes
abbrev pub letter_of : Kind → ℕ
letter_of Heading = 72
letter_of Item = 73
letter_of RateOnly = 82
letter_of ProvisionalSum = 80
letter_of Note = 78
letter_of Collection = 67
letter_of Summary = 83
letter_of Blank = 66

abbrev pub every_kind : List Kind
every_kind = Heading ∷ (Item ∷ (RateOnly ∷ (ProvisionalSum ∷ (Note ∷ (Collection ∷ (Summary ∷ (Blank ∷ [])))))))

-- the first of the kinds whose letter it is
abbrev pub kind_among : List Kind → ℕ → Option Kind
kind_among [] letter = None
kind_among (k ∷ ks) letter = cond (letter == letter_of k) (Some k) (kind_among ks letter)

abbrev pub kind_of : ℕ → Option Kind
kind_of letter = kind_among every_kind letter
