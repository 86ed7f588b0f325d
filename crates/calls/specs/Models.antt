-- A book as its sheets, each with the tree that holds its rows.
use Rattle.std.specs.Prelude.{List, map}
use Rattle.plain.specs.Sheets.{Sheet, across}
use Rattle.plain.specs.Plain.{PlainBook}
use Rattle.plain.specs.Steps.{Rows}
use Rattle.records.specs.Changes.{Rooted}
use Rattle.cells.specs.Trees.{Tree, leaf, link, rows, size}

abbrev pub Model : Type 0 → Type 0
Model E = List (Sheet (Tree E))

-- the plain book that the trees stand for: the kinds of each sheet's rows, in row order
abbrev pub plain_of : {E : Type 0} → Model E → PlainBook
plain_of model = map (across rows) model

-- what the records say of a tree
abbrev pub rooted_of : {E : Type 0} → Tree E → Rooted
rooted_of t = (size t, link t)

abbrev pub recorded : {E : Type 0} → Model E → List (Sheet Rooted)
recorded model = map (across rooted_of) model

abbrev pub trees_of : {E : Type 0} → Model E → List (Tree E)
trees_of model = map (λ s. s.rows) model

-- a sheet that is changed or made has a given tree afterwards
abbrev pub with_tree : {E : Type 0} → Tree E → Rows (Tree E)
with_tree u = record { none = leaf; copy = λ t. u; edit = λ e t. u; renew = λ t. u }
