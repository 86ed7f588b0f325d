-- The two panels: what they mean, when they are in order and when fresh, and what their lamps say.
use Rattle.std.specs.Prelude.{◌≡◌, ℕ, Option, None}
use Rattle.monoid.specs.Meaning.{Meaning}
use Rattle.monoid.specs.Words.{Recognises}
use Rattle.automaton.specs.declared.automaton.Automaton.{Automaton}
use Rattle.automaton.specs.declared.state_map.StateMap.{StateMap}
use Rattle.automaton.specs.Meanings.{automaton_meaning}
use Rattle.counter.specs.declared.counter.Counter.{Counter}
use Rattle.counter.specs.Meanings.{counter_meaning}
use Rattle.table.specs.declared.table.Table.{Table}
use Rattle.table.specs.Meanings.{table_meaning, table_small}
use Rattle.layers.specs.declared.side_by_side.SideBySide.{SideBySide}
use Rattle.layers.specs.declared.layer.Layer.{Layer}
use Rattle.layers.specs.declared.not.Complement.{Complement}
use Rattle.layers.specs.declared.reversed.Mirror.{Mirror}
use Rattle.layers.specs.SideBySide.{side_by_side}
use Rattle.layers.specs.Not.{not_meaning}
use Rattle.layers.specs.Reversed.{reversed_meaning}
use Rattle.memo.specs.declared.memo.Memo.{Memo}
use Rattle.memo.specs.Memo.{Kept}
use Rattle.memo.specs.Products.{found}
use Rattle.before_after.specs.declared.recogniser.BeforeAfter.{BeforeAfter}
use Rattle.before_after.specs.declared.split.Split.{Split}
use Rattle.before_after.specs.BeforeAfter.{before_and_after}
use Rattle.panels.specs.Lamps.{closed_meaning, page_meaning, summary_meaning, notes_meaning, last_meaning}
use Rattle.panels.specs.Sayings.{Outside, Pages, Summarised, NotesApart}

abbrev pub Summaries : Type 0
Summaries = BeforeAfter (Memo Table) Table

abbrev pub summaries_mean : Summaries → Meaning (Split ℕ ℕ)
summaries_mean s = before_and_after (table_meaning s.before.below) (table_small s.before.below) (table_meaning s.after) (table_small s.after) s.marks

-- every tally in it is 0, and its memo keeps no product
pub record FreshSummaries (s : Summaries) : Type 0 where
  pub whole : s.tally.count ≡ 0
  pub memo : s.before.tally.count ≡ 0
  pub before : s.before.below.tally.count ≡ 0
  pub after : s.after.tally.count ≡ 0
  pub kept : (i j : ℕ) → found s.before.products i j ≡ None

-- the first two lamps of panel 1
pub record ClosedPagesSay (m : Meaning (StateMap × ℕ)) : Type 0 where
  pub closed : Recognises m 0 Outside
  pub page : Recognises m 1 Pages

abbrev pub PanelOne : Type 0
PanelOne = SideBySide (SideBySide (SideBySide Automaton Counter) Summaries) (Layer Automaton Complement)

abbrev pub One : Type 0
One = ((StateMap × ℕ) × Split ℕ ℕ) × StateMap

-- closed, page, summary and notes, side by side
abbrev pub panel_one : Meaning One
panel_one = side_by_side (side_by_side (side_by_side closed_meaning page_meaning) summary_meaning) notes_meaning

abbrev pub one_means : PanelOne → Meaning One
one_means p = side_by_side (side_by_side (side_by_side (automaton_meaning p.left.left.left) (counter_meaning p.left.left.right)) (summaries_mean p.left.right)) (not_meaning (automaton_meaning p.right.below))

-- what is kept in its memo is true; nothing else in it can be out of order
abbrev pub one_orderly : PanelOne → Type 0
one_orderly p = ((Unit {0} × Unit {0}) × ((Unit {0} × Kept (table_meaning p.left.right.before.below) (table_small p.left.right.before.below) p.left.right.before.products) × Unit {0})) × Unit {0}

-- the product of two indexes that its memo keeps, if it keeps one
abbrev pub one_kept : PanelOne → ℕ → ℕ → Option ℕ
one_kept p = found p.left.right.before.products

-- every tally in it is 0, and its memo keeps no product
pub record FreshOne (p : PanelOne) : Type 0 where
  pub whole : p.tally.count ≡ 0
  pub three : p.left.tally.count ≡ 0
  pub pair : p.left.left.tally.count ≡ 0
  pub closed : p.left.left.left.tally.count ≡ 0
  pub page : p.left.left.right.tally.count ≡ 0
  pub summary : FreshSummaries p.left.right
  pub notes : p.right.tally.count ≡ 0
  pub adjoining : p.right.below.tally.count ≡ 0

pub record PanelOneSays (m : Meaning One) : Type 0 where
  pub closed : Recognises m 0 Outside
  pub page : Recognises m 1 Pages
  pub summary : Recognises m 2 Summarised
  pub notes : Recognises m 3 NotesApart

abbrev pub PanelTwo : Type 0
PanelTwo = Layer Table Mirror

abbrev pub panel_two : Meaning ℕ
panel_two = last_meaning

abbrev pub two_means : PanelTwo → Meaning ℕ
two_means p = reversed_meaning (table_meaning p.below)

-- nothing in it can be out of order, and nothing is kept: it has no memo
abbrev pub two_orderly : PanelTwo → Type 0
two_orderly p = Unit {0}

abbrev pub two_kept : PanelTwo → ℕ → ℕ → Option ℕ
two_kept p i j = None

-- both tallies in it are 0; it has no memo
pub record FreshTwo (p : PanelTwo) : Type 0 where
  pub whole : p.tally.count ≡ 0
  pub first : p.below.tally.count ≡ 0
