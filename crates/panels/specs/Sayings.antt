-- What each lamp says, in words about rows.
use Rattle.std.specs.Prelude.{◌≡◌, ◌%◌, [], ◌∷◌, ◌++◌, length}
use Rattle.rows.specs.declared.kind.Kind.{Kind}
use Rattle.rows.specs.declared.kind.Kind.TheVariants.{Heading, Item, RateOnly, ProvisionalSum, Note, Collection, Summary, Blank}
use Rattle.monoid.specs.Words.{Word}

-- *closed*: outside stand notes, summaries and blanks, and headings, each with what it heads; inside stand items, rate-only items, provisional sums, notes and blanks, up to a collection
mutual
  pub data Outside : Word → Type 0 where
    outside_end : Outside []
    outside_note : {w : Word} → Outside w → Outside (Note ∷ w)
    outside_summary : {w : Word} → Outside w → Outside (Summary ∷ w)
    outside_blank : {w : Word} → Outside w → Outside (Blank ∷ w)
    opened : {w : Word} → Inside w → Outside (Heading ∷ w)

  pub data Inside : Word → Type 0 where
    inside_item : {w : Word} → Inside w → Inside (Item ∷ w)
    inside_rate_only : {w : Word} → Inside w → Inside (RateOnly ∷ w)
    inside_provisional : {w : Word} → Inside w → Inside (ProvisionalSum ∷ w)
    inside_note : {w : Word} → Inside w → Inside (Note ∷ w)
    inside-blank : {w : Word} → Inside w → Inside (Blank ∷ w)
    closed : {w : Word} → Outside w → Inside (Collection ∷ w)

-- *page*: the rows fill pages of ten
abbrev pub Pages : Word → Type 0
Pages w = length w % 10 ≡ 0

-- a row of the kind stands in the word
pub data Has (k : Kind) : Word → Type 0 where
  here : {w : Word} → Has k (k ∷ w)
  later : {j : Kind} {w : Word} → Has k w → Has k (j ∷ w)

-- *summary*: some summary has a collection somewhere before it, and none after it
pub record Summarised (w : Word) : Type 0 where
  pub before : Word
  pub after : Word
  pub parts : w ≡ before ++ (Summary ∷ after)
  pub collected : Has Collection before
  pub no_more : Has Collection after → ⊥

-- two notes adjoin
pub record Adjoining (w : Word) : Type 0 where
  pub before : Word
  pub after : Word
  pub parts : w ≡ before ++ (Note ∷ (Note ∷ after))

-- *notes*: no two notes adjoin
abbrev pub NotesApart : Word → Type 0
NotesApart w = Adjoining w → ⊥

-- the first row is a collection
pub record StartsCollected (w : Word) : Type 0 where
  pub after : Word
  pub parts : w ≡ Collection ∷ after

-- the last row is a collection
pub record EndsCollected (w : Word) : Type 0 where
  pub before : Word
  pub parts : w ≡ before ++ (Collection ∷ [])
