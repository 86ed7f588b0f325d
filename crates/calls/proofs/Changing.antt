-- A call that changes, makes or frees the tree of one sheet leaves the book sound.
use Rattle.std.proofs.Common.{◌≡◌, ℕ, ◌+◌, ◌≤◌, Bool, true, false, cond, List, [], ◌∷◌, ◌++◌, length, length-append, Option, sym, refl, ap, ◌∙◌, subst, arith}
use Rattle.monoid.specs.Meaning.{Meaning}
use Rattle.plain.specs.declared.state.State.{State}
use Rattle.plain.specs.declared.state.State.TheVariants.{Settled, Paused}
use Rattle.plain.specs.declared.call.Call.{Call}
use Rattle.plain.specs.declared.call.Call.TheVariants.{Copy, Close, Insert, Strike, Replace, Recalculate}
use Rattle.plain.specs.Calls.{tag_of}
use Rattle.plain.specs.Sheets.{Sheet, fresh, restated, edited, is_paused, such, named, rows_of, altered, without}
use Rattle.plain.specs.Lawful.{tagged}
use Rattle.plain.specs.Steps.{after}
use Rattle.plain.proofs.Lawful.{copies-found}
use Rattle.plain.proofs.Mapping.{CarriesAt, after_map_at}
use Rattle.records.specs.declared.records.Records.{Records}
use Rattle.records.specs.Changes.{rooted, Committed}
use Rattle.cells.specs.declared.cell.Cell.{Cell}
use Rattle.cells.specs.Trees.{Tree, leaf, node, link, rows, count, Balanced, Stands}
use Rattle.cells.specs.Truth.{True}
use Rattle.unused.specs.Listed.{times, Listed}
use Rattle.unused.specs.Freeing.{sum}
use Rattle.changes.specs.Changes.{Changed, was, word_after, state_after}
use Rattle.calls.specs.Models.{Model, rooted_of, trees_of, with_tree}
use Rattle.calls.specs.Sound.{AllHeld, own, Sound}
use Rattle.calls.specs.Ways.{Worked}
use Rattle.calls.proofs.Outlining.{model_tagged}
use Rattle.calls.proofs.Holding.{held_append, held_changed, held_others, held_without, trees_append, sum-append, sum-altered, sum-without}

-- the state of a sheet that is paused, or is not
abbrev pub state_by : Bool → State
state_by p = cond p Paused Settled

settled_by : (s : State) (p : Bool) → is_paused s ≡ p → s ≡ Settled → state_by p ≡ Settled
settled_by Settled p e settled = ap state_by (sym e)
settled_by Paused p e settled = let z : ◌≡◌ {A = ℕ} 0 1 = cc in absurd (omega arith)

-- a tree without rows has no place
no_rows : {E : Type 0} (u : Tree E) → rows u ≡ [] → u ≡ leaf
no_rows leaf e = refl
no_rows (node l i k p r) e = let long = length-append (rows l) (k ∷ rows r) in let none = ap length e in absurd (omega arith)

-- the trees after a call: held by the cells, and their places counted
pub record Left {E : Type 0} (lawful : Bool) (m : Meaning E) (z : List (Cell E)) (before after' : Model E) (t u : Tree E) : Type 0 where
  pub held : AllHeld lawful m z after'
  pub sums : (q : ℕ) → sum (count q) (trees_of after') + count q t ≡ sum (count q) (trees_of before) + count q u

module _ {E : Type 0} (lawful : Bool) (m : Meaning E) (x z : List (Cell E)) (is is' : List ℕ) (first : Option ℕ) (u : Tree E) (ss : Model E) (distinct : tagged ss ≡ true) (apart : (q : ℕ) → sum (count q) (trees_of ss) + times q is ≤ 1) (all : AllHeld lawful m x ss) where
  -- the tree of a sheet has become another one
  left_altered : (tag : ℕ) (f : Sheet (Tree E) → Sheet (Tree E)) → ((s : Sheet (Tree E)) → (f s).rows ≡ u) → named tag ss ≡ true → Changed x z (rows_of leaf tag ss) u is is' first → ((s : Sheet (Tree E)) → is_paused s.state ≡ such is_paused tag ss → lawful ≡ true → (f s).state ≡ Settled → True m u) → Left lawful m z ss (altered tag f ss) (rows_of leaf tag ss) u
  left_altered tag f made stands changed truth = record {
    held = held_changed lawful m x z tag f (λ q. times q is) (rows_of leaf tag ss) (such is_paused tag ss) changed.others (λ s is_t state h. record {
      stands = subst (Stands z) (sym (made s)) changed.stands;
      balanced = subst Balanced (sym (made s)) changed.balanced;
      truth = λ l settled. subst (True m) (sym (made s)) (truth s state l settled);
    }) ss distinct stands refl refl apart all;
    sums = λ q. sum-altered q tag u f made ss distinct stands;
  }

  -- a tree was made for a new sheet
  left_copied : (new : ℕ) → Changed x z leaf u is is' first → (lawful ≡ true → True m u) → Left lawful m z ss (ss ++ (fresh new u ∷ [])) leaf u
  left_copied new changed truth = record {
    held = held_append lawful m z ss (fresh new u) (held_others lawful m x z (λ q. times q is) (λ o free. changed.others o (λ q. let f = free q in omega arith)) ss apart all) (record { stands = changed.stands; balanced = changed.balanced; truth = λ l settled. truth l });
    sums = λ q. let e = ap (sum (count q)) (trees_append ss (fresh new u)) ∙ sum-append (count q) (trees_of ss) u in omega arith;
  }

  -- a sheet was taken out with its tree
  left_closed : (tag : ℕ) → named tag ss ≡ true → rows u ≡ [] → Changed x z (rows_of leaf tag ss) u is is' first → Left lawful m z ss (without tag ss) (rows_of leaf tag ss) u
  left_closed tag stands none changed = record {
    held = held_without lawful m x z tag (λ q. times q is) (rows_of leaf tag ss) changed.others ss distinct stands refl apart all;
    sums = λ q. let e = sum-without q tag ss distinct stands in let n : count q u ≡ 0 = ap (count q) (no_rows u none) in omega arith;
  }

  -- after each of the calls
  pub left_by : (call : Call) → Worked call → named (tag_of call) ss ≡ true → rows u ≡ word_after call (rows (rows_of leaf (tag_of call) ss)) → Changed x z (was call (rows_of leaf (tag_of call) ss)) u is is' first → (lawful ≡ true → state_after call (state_by (such is_paused (tag_of call) ss)) ≡ Settled → True m u) → ((tag new : ℕ) → call ≡ Copy tag new → such is_paused tag ss ≡ false) → Left lawful m z ss (after (with_tree u) ss call) (was call (rows_of leaf (tag_of call) ss)) u
  left_by (Copy tag new) worked stands word changed truth source =
      subst (λ (l : Model E). Left lawful m z ss (ss ++ l) leaf u) (sym (copies-found (with_tree u) tag new leaf ss stands))
      (left_copied new changed (λ l. truth l (ap state_by (source tag new refl))))
  left_by (Close tag) worked stands word changed truth source = left_closed tag stands word changed
  left_by (Insert tag row kind) worked stands word changed truth source = left_altered tag (edited (λ t. u)) (λ s. refl) stands changed (λ s state l settled. truth l (settled_by s.state (such is_paused tag ss) state settled))
  left_by (Strike tag row) worked stands word changed truth source = left_altered tag (edited (λ t. u)) (λ s. refl) stands changed (λ s state l settled. truth l (settled_by s.state (such is_paused tag ss) state settled))
  left_by (Replace tag row kind) worked stands word changed truth source = left_altered tag (edited (λ t. u)) (λ s. refl) stands changed (λ s state l settled. truth l (settled_by s.state (such is_paused tag ss) state settled))
  left_by (Recalculate tag) worked stands word changed truth source = left_altered tag (λ s. restated Settled (edited (λ t. u) s)) (λ s. refl) stands changed (λ s state l settled. truth l refl)
  left_by _ worked stands word changed truth source = absurd worked

module _ {E : Type 0} (lawful : Bool) (m : Meaning E) (b b' : Records) (x y : List (Cell E)) (before : Model E) (u : Tree E) (call : Call) (first : Option ℕ) (is' : List ℕ) (sound : Sound lawful m b x before) where
  -- the book after a call whose trees were left so
  pub sound_left : Committed b b' call (link u) first → CarriesAt (with_tree u) (rooted (link u)) rooted_of call (rows_of leaf (tag_of call) before) → Changed (own b x) (own b' y) (was call (rows_of leaf (tag_of call) before)) u sound.places is' first → Left lawful m (own b' y) before (after (with_tree u) before call) (was call (rows_of leaf (tag_of call) before)) u → Sound lawful m b' y (after (with_tree u) before call)
  sound_left committed at changed left =
      let capacity = committed.capacity in
      record {
        said =
            committed.sheets
            ∙ ap (λ ss. after (rooted (link u)) ss call) sound.said
            ∙ sym (after_map_at (with_tree u) (rooted (link u)) rooted_of before (model_tagged b before sound.said) call leaf at);
        held = left.held;
        places = is';
        listed = subst (λ (h : Option ℕ). Listed (own b' y) h is') (sym committed.head) changed.listed;
        once = λ q h. let s = left.sums q in let c = changed.counts q in let o = sound.once q (omega arith) in omega arith;
        beyond = λ q h. let s = left.sums q in let c = changed.counts q in let o = sound.beyond q (omega arith) in omega arith;
      }
