-- The data of the recognisers in the panels. What stands by kind is in the order heading, item, rate-only item, provisional sum, note, collection, summary, blank.
use Rattle.std.specs.Prelude.{ℕ, Bool, true, false, List, [], ◌∷◌, replicate}
use Rattle.automaton.specs.declared.data.AutomatonData.{AutomatonData}
use Rattle.counter.specs.declared.data.CounterData.{CounterData}
use Rattle.table.specs.declared.data.TableData.{TableData}

-- one entry for each kind
abbrev pub by_kind : {X : Type 0} → X → X → X → X → X → X → X → X → List X
by_kind heading item rate_only provisional note collection summary blank = heading ∷ (item ∷ (rate_only ∷ (provisional ∷ (note ∷ (collection ∷ (summary ∷ (blank ∷ [])))))))

-- three states, the first two with a row each, and a third that is never left
abbrev pub until_the_last : List ℕ → List ℕ → List Bool → AutomatonData
until_the_last first second lit = record {
  states = 3;
  start = 0;
  next = first ∷ (second ∷ (replicate 8 2 ∷ replicate 13 (replicate 8 0)));
  lit = lit;
}

-- the states of *closed*: 0 outside and lit, 1 inside, 2 broken
abbrev pub closed_data : AutomatonData
closed_data = until_the_last (by_kind 1 2 2 2 0 2 0 0) (by_kind 2 1 1 1 1 0 2 1) (true ∷ replicate 15 false)

-- *page*: ten rows, whatever they are
abbrev pub page_data : CounterData
page_data = record { modulus = 10; weights = replicate 8 1; residue = 0 }

-- the states for two adjoining notes: 0 none before, 1 one before, 2 two seen and lit
abbrev pub adjoining_data : AutomatonData
adjoining_data = until_the_last (by_kind 0 0 0 0 1 0 0 0) (by_kind 0 0 0 0 2 0 0 0) (false ∷ (false ∷ (true ∷ replicate 13 false)))

-- x·y the greater of x and y, from 0 to 1; a collection is 1, every other kind 0
abbrev pub greater_data : Bool → Bool → TableData
greater_data lit_none lit_some = record {
  size = 2;
  products = (0 ∷ (1 ∷ replicate 6 0)) ∷ ((1 ∷ (1 ∷ replicate 6 0)) ∷ replicate 6 (replicate 8 0));
  images = by_kind 0 0 0 0 0 1 0 0;
  lit = lit_none ∷ (lit_some ∷ replicate 6 false);
}

-- lit where there is a collection, and where there is none
abbrev pub some_collection_data : TableData
some_collection_data = greater_data false true

abbrev pub no_collection_data : TableData
no_collection_data = greater_data true false

-- summaries are marked
abbrev pub summary_marks : List Bool
summary_marks = by_kind false false false false false false true false

-- x·y is x unless x is 0, else y; a collection is 1 and lit, every other kind 2
abbrev pub first_data : TableData
first_data = record {
  size = 3;
  products = (0 ∷ (1 ∷ (2 ∷ replicate 5 0))) ∷ ((1 ∷ (1 ∷ (1 ∷ replicate 5 0))) ∷ ((2 ∷ (2 ∷ (2 ∷ replicate 5 0))) ∷ replicate 5 (replicate 8 0)));
  images = by_kind 2 2 2 2 2 1 2 2;
  lit = false ∷ (true ∷ replicate 6 false);
}
