-- What a lamp recognises, said in other words.
use Rattle.monoid.specs.Meaning.{Meaning}
use Rattle.monoid.specs.Words.{Word, language, Recognises}
use Rattle.std.proofs.Common.{ℕ, ◌↔◌, lit<}
use Rattle.automaton.specs.declared.automaton.Automaton.{Automaton}
use Rattle.automaton.specs.declared.state_map.StateMap.{StateMap}
use Rattle.automaton.specs.Meanings.{automaton_meaning}
use Rattle.counter.specs.declared.counter.Counter.{Counter}
use Rattle.counter.specs.Meanings.{counter_meaning}
use Rattle.layers.specs.SideBySide.{Beside}
use Rattle.panels.specs.Sayings.{Outside, Pages}
use Rattle.panels.specs.Panels.{ClosedPagesSay}

pub said : {E : Type 0} (m : Meaning E) (j : ℕ) (L M : Word → Type 0) → Recognises m j L → ((w : Word) → L w ↔ M w) → Recognises m j M
said m j L M r same = record { only = λ w h. (same w).0 (r.only w h); every = λ w h. r.every w ((same w).1 h) }

-- a lamp that has the language of another lamp recognises what that one does
pub passed_on : {E F : Type 0} (m : Meaning E) (j : ℕ) (n : Meaning F) (i : ℕ) (L : Word → Type 0) → Recognises m j (language n i) → Recognises n i L → Recognises m j L
passed_on m j n i L r s = record { only = λ w h. s.only w (r.only w h); every = λ w h. r.every w (s.every w h) }

-- what the lamps of *closed* and *page* say, side by side
pub beside_said : (a : Automaton) (b : Counter) (m : Meaning (StateMap × ℕ)) → Recognises (automaton_meaning a) 0 Outside → Recognises (counter_meaning b) 0 Pages → Beside m (automaton_meaning a) (counter_meaning b) → ClosedPagesSay m
beside_said a b m closed page both = record {
  closed = passed_on m 0 (automaton_meaning a) 0 Outside (both.left 0 (lit< tt)) closed;
  page = passed_on m 1 (counter_meaning b) 0 Pages (both.right 0 (lit< tt)) page;
}
