-- Sheets with their tags, and what is read and changed of them by tag.
use Rattle.std.specs.Prelude.{ℕ, ◌+◌, Bool, true, false, cond, ◌||◌, List, [], ◌∷◌, ◌==◌}
use Rattle.plain.specs.declared.state.State.{State}
use Rattle.plain.specs.declared.state.State.TheVariants.{Settled, Paused}

-- a sheet, whose rows may be given as a word or by how many they are
pub record Sheet (X : Type 0) : Type 0 where
  pub tag : ℕ
  pub state : State
  pub rows : X

-- a new sheet is settled
abbrev pub fresh : {X : Type 0} → ℕ → X → Sheet X
fresh tag rows = record { tag = tag; state = Settled; rows = rows }

-- a sheet under another tag, in another state, with other rows
abbrev pub retagged : {X : Type 0} → ℕ → Sheet X → Sheet X
retagged new s = record { tag = new; state = s.state; rows = s.rows }

abbrev pub restated : {X : Type 0} → State → Sheet X → Sheet X
restated state s = record { tag = s.tag; state = state; rows = s.rows }

abbrev pub edited : {X : Type 0} → (X → X) → Sheet X → Sheet X
edited f s = record { tag = s.tag; state = s.state; rows = f s.rows }

-- a sheet whose rows are given in another way
abbrev pub across : {X Y : Type 0} → (X → Y) → Sheet X → Sheet Y
across f s = record { tag = s.tag; state = s.state; rows = f s.rows }

abbrev pub is_settled : State → Bool
is_settled Settled = true
is_settled Paused = false

abbrev pub is_paused : State → Bool
is_paused Settled = false
is_paused Paused = true

-- whether some sheet has the tag
abbrev pub named : {X : Type 0} → ℕ → List (Sheet X) → Bool
named tag [] = false
named tag (s ∷ ss) = s.tag == tag || named tag ss

-- whether the sheet of the tag is such
abbrev pub such : {X : Type 0} → (State → Bool) → ℕ → List (Sheet X) → Bool
such is tag [] = false
such is tag (s ∷ ss) = cond (s.tag == tag) (is s.state) (such is tag ss)

-- the state of the sheet of the tag; settled where there is none
abbrev pub state_in : {X : Type 0} → ℕ → List (Sheet X) → State
state_in tag [] = Settled
state_in tag (s ∷ ss) = cond (s.tag == tag) s.state (state_in tag ss)

-- the rows of the sheet of the tag, or those given where there is none
abbrev pub rows_of : {X : Type 0} → X → ℕ → List (Sheet X) → X
rows_of none tag [] = none
rows_of none tag (s ∷ ss) = cond (s.tag == tag) s.rows (rows_of none tag ss)

-- the sheet of the tag changed, and every other as it is
abbrev pub altered : {X : Type 0} → ℕ → (Sheet X → Sheet X) → List (Sheet X) → List (Sheet X)
altered tag f [] = []
altered tag f (s ∷ ss) = cond (s.tag == tag) (f s) s ∷ altered tag f ss

-- the sheets without the one of the tag
abbrev pub without : {X : Type 0} → ℕ → List (Sheet X) → List (Sheet X)
without tag [] = []
without tag (s ∷ ss) = cond (s.tag == tag) (without tag ss) (s ∷ without tag ss)

-- how many rows all sheets have together
abbrev pub total : List (Sheet ℕ) → ℕ
total [] = 0
total (s ∷ ss) = s.rows + total ss
