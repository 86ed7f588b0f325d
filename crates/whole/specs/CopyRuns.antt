-- How far the copying of a tree has come.
use Rattle.std.specs.Prelude.{◌≡◌, ℕ, ◌+◌, ◌-◌, ◌≤◌, cond, List, [], ◌∷◌, ◌++◌, Some, Option, nat_lt}
use Rattle.std.specs.List.{slice_get}
use Rattle.cells.specs.declared.cell.Cell.{Cell}
use Rattle.cells.specs.Trees.{Tree, leaf, node, size, count}
use Rattle.cells.specs.Rooted.{Rooted}
use Rattle.unused.specs.declared.list.Unused.{Unused}
use Rattle.unused.specs.declared.pile.Pile.{Pile}
use Rattle.unused.specs.Listed.{times, Listed}
use Rattle.unused.specs.Piles.{tops}
use Rattle.unused.specs.Freeing.{sum, roots, Stood}
use Rattle.whole.specs.Copying.{Same}

abbrev pub Sames : {E : Type 0} → List (Tree E) → List (Tree E) → Type 0
Sames [] [] = Unit {0}
Sames [] (u ∷ us) = ⊥
Sames (t ∷ ts) [] = ⊥
Sames (t ∷ ts) (u ∷ us) = Same t u × Sames ts us

-- a tree before others, if it has a row
abbrev pub onto : {E : Type 0} → Tree E → List (Tree E) → List (Tree E)
onto leaf ts = ts
onto (node l i k p r) ts = node l i k p r ∷ ts

-- the largest subtrees of which each row is among the first n ranks, the last first
abbrev pub wholes : {E : Type 0} → ℕ → Tree E → List (Tree E)
wholes n leaf = []
wholes n (node l i k p r) = cond (nat_lt (size l + size r) n) (node l i k p r ∷ []) (wholes (n - size l) r ++ wholes n l)

-- n rows of t are copied: the pile holds the copies of its whole subtrees, and the places are left
pub record Copying {E : Type 0} (x : List (Cell E)) (p : Pile) (first root : Option ℕ) (t : Tree E) (n : ℕ) (cs : List (Tree E)) (is : List ℕ) : Type 0 where
  pub rooted : Rooted x root t
  pub same : Sames (wholes n t) cs
  pub piled : tops p ≡ roots cs
  pub stood : Stood x cs
  pub listed : Listed x first is
  pub apart : (q : ℕ) → count q t + sum (count q) cs + times q is ≤ 1

pub record CopiedNext {E : Type 0} (x y : List (Cell E)) (after : Pile) (root : Option ℕ) (t : Tree E) (n : ℕ) (cs : List (Tree E)) (i : ℕ) (is : List ℕ) (out : Option Unused) : Type 0 where
  pub next : Option ℕ
  pub copies : List (Tree E)
  pub given : out ≡ Some (record { first = next })
  pub copying : Copying y after next root t n copies is
  pub counts : (q : ℕ) → sum (count q) copies + times q is ≡ sum (count q) cs + times q (i ∷ is)
  pub kept : (q : ℕ) → times q (i ∷ is) ≡ 0 → slice_get y q ≡ slice_get x q

abbrev pub CopiesNext : {E : Type 0} → List (Cell E) → List (Cell E) → Pile → Pile → Option ℕ → Option ℕ → ℕ → Option Unused → Type 0
CopiesNext {E} x y before after first root n out = (t : Tree E) (d : ℕ) (cs : List (Tree E)) (i : ℕ) (is : List ℕ) → n ≡ d + 1 → n ≤ size t → Copying x before first root t d cs (i ∷ is) → CopiedNext x y after root t n cs i is out
