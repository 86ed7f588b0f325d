-- The rows of the tree that a call leaves are those that the plain book and the records have.
use Rattle.std.proofs.Common.{◌≡◌, ℕ, ◌+◌, ◌-◌, ◌<◌, ltb, length, sym, ap, ◌∙◌, arith, length-set}
use Rattle.std.proofs.lemmas.Bool.{cond-true, lt-ltb}
use Rattle.std.proofs.lemmas.List.Edits.{length-insert, length-remove}
use Rattle.plain.specs.declared.call.Call.{Call}
use Rattle.plain.specs.declared.call.Call.TheVariants.{Copy, Close, Insert, Strike, Replace, Recalculate}
use Rattle.plain.specs.Plain.{words}
use Rattle.plain.proofs.Mapping.{CarriesAt}
use Rattle.records.specs.Changes.{rooted}
use Rattle.cells.specs.Trees.{Tree, link, rows, size}
use Rattle.cells.proofs.Frame.{rows_long}
use Rattle.changes.specs.Changes.{Askable, word_after}
use Rattle.calls.specs.Models.{rooted_of, with_tree}

module _ {E : Type 0} (t u : Tree E) where
  -- by its word
  pub carries_words : (call : Call) (free : ℕ) → Askable call (size t) free → rows u ≡ word_after call (rows t) → CarriesAt (with_tree u) words rows call t
  carries_words (Copy tag new) free asked word = word
  carries_words (Close tag) free asked word = tt
  carries_words (Insert tag row kind) free asked word = word
  carries_words (Strike tag row) free asked word = word
  carries_words (Replace tag row kind) free asked word = word
  carries_words (Recalculate tag) free asked word = word
  carries_words _ free asked word = absurd asked

  long_as : (n : ℕ) → length (rows u) ≡ n → size u ≡ n
  long_as n e = sym (rows_long u) ∙ e

  -- by how many rows there are, and where the root stands
  pub carries_rooted : (call : Call) (free : ℕ) → Askable call (size t) free → rows u ≡ word_after call (rows t) → CarriesAt (with_tree u) (rooted (link u)) rooted_of call t
  carries_rooted (Copy tag new) free asked word = ap (λ n. (n, link u)) (long_as (size t) (ap length word ∙ rows_long t))
  carries_rooted (Close tag) free asked word = tt
  carries_rooted (Insert tag row kind) free asked word =
      let long = rows_long t in
      let low = asked.1 in
      let some = asked.0 in
      ap (λ n. (n, link u)) (long_as (size t + 1) (ap length word ∙ length-insert (rows t) (row - 1) kind (omega arith) ∙ ap (λ n. n + 1) long))
  carries_rooted (Strike tag row) free asked word =
      let long = rows_long t in
      let low = asked.1 in
      let some = asked.0 in
      let within : row - 1 < size t = omega arith in
      let fewer : length (rows u) ≡ size t - 1 = (let e = ap length word in let r = length-remove (rows t) (row - 1) (omega arith) in omega arith) in
      ap (λ n. (n, link u)) (long_as (size t - 1) fewer ∙ sym (cond-true (ltb (row - 1) (size t)) (size t - 1) (size t) (lt-ltb (row - 1) (size t) within)))
  carries_rooted (Replace tag row kind) free asked word = ap (λ n. (n, link u)) (long_as (size t) (ap length word ∙ length-set (rows t) (row - 1) kind ∙ rows_long t))
  carries_rooted (Recalculate tag) free asked word = ap (λ n. (n, link u)) (long_as (size t) (ap length word ∙ rows_long t))
  carries_rooted _ free asked word = absurd asked
