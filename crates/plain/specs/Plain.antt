-- The plain book: tags with a state and a word, fed the capacity and the calls alone.
use Rattle.std.specs.Prelude.{ℕ, ◌+◌, ◌-◌, cond, List, [], map, length, take, drop, Some, None, Option, nat_lt, slice_set}
use Rattle.std.specs.List.{insert, remove}
use Rattle.monoid.specs.Words.{Word}
use Rattle.plain.specs.declared.call.Call.{Call}
use Rattle.plain.specs.Calls.{tag_of}
use Rattle.plain.specs.Forms.{Edit, inserts, strikes, replaces, Shows, nothing, all_rows, first_to_last, form, shows_of}
use Rattle.plain.specs.declared.refusal.Refusal.{Refusal}
use Rattle.plain.specs.Refusals.{number_of}
use Rattle.plain.specs.Sheets.{Sheet, across, rows_of}
use Rattle.plain.specs.Questions.{refusal_of}
use Rattle.plain.specs.Steps.{Rows, after}

abbrev pub PlainBook : Type 0
PlainBook = List (Sheet Word)

-- edits of a word are those of a list
abbrev pub edit_word : Edit → Word → Word
edit_word (inserts row kind) w = insert w (row - 1) kind
edit_word (strikes row) w = remove w (row - 1)
edit_word (replaces row kind) w = slice_set w (row - 1) kind

abbrev pub words : Rows Word
words = record {
  none = [];
  copy = λ w. w;
  edit = edit_word;
  renew = λ w. w;
}

-- the same edits, of how many rows there are; one is taken out where there is such a row
abbrev pub edit_count : Edit → ℕ → ℕ
edit_count (inserts row kind) n = n + 1
edit_count (strikes row) n = cond (nat_lt (row - 1) n) (n - 1) n
edit_count (replaces row kind) n = n

abbrev pub counts : Rows ℕ
counts = record {
  none = 0;
  copy = λ n. n;
  edit = edit_count;
  renew = λ n. n;
}

-- the tags, states and numbers of rows
abbrev pub outline : PlainBook → List (Sheet ℕ)
outline book = map (across length) book

abbrev pub refusal : ℕ → PlainBook → Call → Option Refusal
refusal capacity book call = refusal_of capacity (outline book) call

abbrev pub number : ℕ → PlainBook → Call → ℕ
number capacity book call = number_of (refusal capacity book call)

abbrev pub unless : {X : Type 0} → Option Refusal → X → X → X
unless None changed same = changed
unless (Some reason) changed same = same

-- the book after a call: changed where it is accepted, else as it was
abbrev pub next : ℕ → PlainBook → Call → PlainBook
next capacity book call = unless (refusal capacity book call) (after words book call) book

-- the rows that are shown of a word
abbrev pub rows_shown : Shows → Word → Word
rows_shown nothing w = []
rows_shown all_rows w = w
rows_shown (first_to_last first last) w = take ((last + 1) - first) (drop (first - 1) w)

-- the rows that a question is about
abbrev pub rows_named : PlainBook → Call → Word
rows_named book call = rows_shown (shows_of (form call).effect) (rows_of [] (tag_of call) book)
