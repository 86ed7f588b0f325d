-- Maps of states by the function that they follow, and the loop that fills one in.
use Rattle.std.specs.Prelude.{◌≡◌, ℕ, ◌+◌, ◌<◌, ◌≤◌, List, length, replicate, slice_index, slice_set, refl}
use Rattle.std.proofs.Common.{ap, ◌∙◌, arith, length-set}
use Rattle.std.proofs.lemmas.List.FromFn.{get_or-map-range_with_len, length-map-range_with_len, fill_by_all}
use Rattle.std.proofs.lemmas.List.Edits.{fill_by_more}
use Rattle.automaton.specs.declared.state_map.StateMap.{StateMap}
use Rattle.automaton.specs.Maps.{leads, map_by}

-- the entries below n are filled in by f
pub record Filled (f : ℕ → ℕ) (to : List ℕ) (n : ℕ) : Type 0 where
  pub long : length to ≡ 16
  pub so_far : (s : ℕ) → s < n → slice_index to s ≡ f s

pub filled_none : (f : ℕ → ℕ) → Filled f (replicate 16 0) 0
filled_none f = record { long = refl; so_far = λ s h. absurd (omega arith) }

pub filled_more : (f : ℕ → ℕ) (to : List ℕ) (n t : ℕ) → n < 16 → t ≡ f n → Filled f to n → Filled f (slice_set to n t) (n + 1)
filled_more f to n t within is before =
    let short : n < length to = omega (arith, before.long) in
    record {
      long = simp length-set before.long;
      so_far = λ s h. ap (λ v. slice_index (slice_set to n v) s) is ∙ fill_by_more f to n 0 short before.so_far s h;
    }

-- a map that leads each of the sixteen as f does
pub follows : (f : ℕ → ℕ) (x : StateMap) → length x.to ≡ 16 → ((s : ℕ) → s < 16 → leads x s ≡ f s) → x ≡ map_by f
follows f x long each = ap {B = StateMap} (λ to. record { to = to }) (fill_by_all f x.to 16 0 long each)

pub filled_all : (f : ℕ → ℕ) (to : List ℕ) (n : ℕ) → 16 ≤ n → Filled f to n → ◌≡◌ {A = StateMap} (record { to = to }) (map_by f)
filled_all f to n end before = follows f (record { to = to }) before.long (λ s h. before.so_far s (omega arith))

pub leads_by : (f : ℕ → ℕ) (s : ℕ) → s < 16 → leads (map_by f) s ≡ f s
leads_by f s h = get_or-map-range_with_len f 0 16 s s 0 h (omega arith)

pub long_by : (f : ℕ → ℕ) → length (map_by f).to ≡ 16
long_by f = length-map-range_with_len f 0 16

pub same_by : (f g : ℕ → ℕ) → ((s : ℕ) → s < 16 → f s ≡ g s) → map_by f ≡ map_by g
same_by f g each = follows g (map_by f) (long_by f) (λ s h. leads_by f s h ∙ each s h)
