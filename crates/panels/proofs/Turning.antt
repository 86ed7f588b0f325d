-- The turned lamp of *notes*, and the first row read from the end.
use Rattle.std.proofs.Common.{ℕ, ◌↔◌, [], ◌∷◌, reverse, sym, ap, ◌∙◌, lit<}
use Rattle.std.proofs.lemmas.List.{reverse-append, reverse-reverse}
use Rattle.rows.specs.declared.kind.Kind.TheVariants.{Collection}
use Rattle.monoid.specs.Meaning.{Meaning}
use Rattle.monoid.specs.Words.{Word, language, Recognises}
use Rattle.automaton.specs.declared.automaton.Automaton.{Automaton}
use Rattle.automaton.specs.declared.state_map.StateMap.{StateMap}
use Rattle.automaton.specs.Meanings.{automaton_meaning}
use Rattle.table.specs.declared.table.Table.{Table}
use Rattle.table.specs.Meanings.{table_meaning}
use Rattle.layers.specs.Not.{Complements}
use Rattle.layers.specs.Reversed.{Backwards}
use Rattle.panels.specs.Sayings.{Adjoining, NotesApart, StartsCollected, EndsCollected}
use Rattle.panels.proofs.Saying.{said}

-- the word read backwards begins as the word ends
pub ends_said : (w : Word) → StartsCollected (reverse w) ↔ EndsCollected w
ends_said w = (
  λ s. record { before = reverse s.after; parts = sym (reverse-reverse w) ∙ ap reverse s.parts ∙ reverse-append (Collection ∷ []) s.after },
  λ e. record { after = reverse e.before; parts = ap reverse e.parts ∙ reverse-append e.before (Collection ∷ []) },
)

-- a lamp turned over is lit where the other says no
pub turned_said : {E : Type 0} (m : Meaning E) (j : ℕ) (L : Word → Type 0) → Recognises m j L → (w : Word) → (language m j w → ⊥) ↔ (L w → ⊥)
turned_said m j L r w = (λ dark here. dark (r.every w here), λ none lit. none (r.only w lit))

-- a word read backwards, lit where it starts with a collection
pub backwards-said : {E : Type 0} (m : Meaning E) (j : ℕ) → Recognises m j StartsCollected → (w : Word) → language m j (reverse w) ↔ EndsCollected w
backwards-said m j r w = (λ lit. (ends_said w).0 (r.only (reverse w) lit), λ e. r.every (reverse w) ((ends_said w).1 e))

-- what is turned over of two notes that adjoin
pub apart_said : (a : Automaton) (n : Meaning StateMap) → Recognises (automaton_meaning a) 0 Adjoining → Complements n (automaton_meaning a) → Recognises n 0 NotesApart
apart_said a n below over = said n 0 (λ w. language (automaton_meaning a) 0 w → ⊥) NotesApart (over.lamps 0 (lit< tt)) (turned_said (automaton_meaning a) 0 Adjoining below)

-- what is read backwards of words that start with a collection
pub backwards_collected : (t : Table) (n : Meaning ℕ) → Recognises (table_meaning t) 0 StartsCollected → Backwards n (table_meaning t) → Recognises n 0 EndsCollected
backwards_collected t n below back = said n 0 (λ w. language (table_meaning t) 0 (reverse w)) EndsCollected (back.lamps 0) (backwards-said (table_meaning t) 0 below)
