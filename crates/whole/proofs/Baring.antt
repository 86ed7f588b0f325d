-- The walk to a rank on cells that differ in their products alone.
use Rattle.std.proofs.Common.{◌≡◌, ℕ, zero, suc, ◌+◌, ◌<◌, ◌≤◌, cond, eqb, List, [], ◌∷◌, map, set, Some, None, Option, sym, refl, ap, ◌∙◌, ⊎_elim, arith}
use Rattle.std.specs.List.{slice_get}
use Rattle.std.specs.Option.{option_map}
use Rattle.std.proofs.lemmas.Bool.{cases_lt}
use Rattle.std.proofs.lemmas.Option.{slice_get-map}
use Rattle.cells.specs.declared.cell.Cell.{Cell}
use Rattle.cells.specs.Descents.{most_depth, Move, on, ends, needs, answer, walk, stored_size}
use Rattle.cells.proofs.Lookup.{some_one, none-some}
use Rattle.whole.specs.Descents.{Seeker, seek_past, seek_row, seek, ranked, bare, Bare, Unreached}

module _ {S A : Type 0} where
  answer_same : (f f' : S → Option A) → ((s : S) → f s ≡ f' s) → (m : Move S A) → answer f m ≡ answer f' m
  answer_same f f' same (on s) = same s
  answer_same f f' same (ends out) = refl

  pub walk_same : (move move' : S → Move S A) → ((s : S) → move s ≡ move' s) → (n : ℕ) (s : S) → walk move n s ≡ walk move' n s
  unfolding walk
  walk_same move move' same zero s = refl
  walk_same move move' same (suc n) s = ap (answer (walk move n)) (same s) ∙ answer_same (walk move n) (walk move' n) (walk_same move move' same n) (move' s)

module _ {E : Type 0} where
  pub bare_set : (x : List (Cell E)) (i : ℕ) (c d : Cell E) → Some c ≡ slice_get x i → bare d ≡ bare c → Bare x (set x i d)
  bare_set [] i c d read e = refl
  bare_set (a ∷ x) zero c d read e = ap (λ v. v ∷ map bare x) (e ∙ ap bare (some_one read))
  bare_set (a ∷ x) (suc i) c d read e = ap (λ v. bare a ∷ v) (bare_set x i c d read e)

  module _ (x : List (Cell E)) where
    size_of : (o : Option (Cell E)) → option_map (λ (c : Cell E). c.size) o ≡ option_map (λ (c : Cell (Unit {0})). c.size) (option_map bare o)
    size_of None = refl
    size_of (Some c) = refl

    size_bare : (link : Option ℕ) → stored_size x link ≡ stored_size (map bare x) link
    size_bare None = refl
    size_bare (Some i) = size_of (slice_get x i) ∙ ap (option_map (λ (c : Cell (Unit {0})). c.size)) (sym (slice_get-map bare x i))

    module _ (s : Seeker) where
      row_bare : (place : ℕ) (o : Option (Cell E)) → needs o (seek_row x s place) ≡ needs (option_map bare o) (seek_row (map bare x) s place)
      row_bare place None = refl
      row_bare place (Some c) = ap (λ v. cond (eqb s.rest c.size) (ends (Some place)) (needs v (seek_past s c))) (size_bare c.left)

      link_bare : (at : Option ℕ) → needs at (λ place. needs (slice_get x place) (seek_row x s place)) ≡ needs at (λ place. needs (slice_get (map bare x) place) (seek_row (map bare x) s place))
      link_bare None = refl
      link_bare (Some place) = row_bare place (slice_get x place) ∙ ap (λ v. needs v (seek_row (map bare x) s place)) (sym (slice_get-map bare x place))

    pub ranked_bare : (root : Option ℕ) (n : ℕ) → ranked x root n ≡ ranked (map bare x) root n
    ranked_bare root n = walk_same (seek x) (seek (map bare x)) (λ s. link_bare s s.at) most_depth (record { at = root; rest = n })

  pub ranked_same : (x y : List (Cell E)) (root : Option ℕ) (n : ℕ) → Bare x y → ranked y root n ≡ ranked x root n
  ranked_same x y root n e = ranked_bare y root n ∙ ap (λ v. ranked v root n) e ∙ sym (ranked_bare x root n)

  -- the walks to so many ranks have had an answer, on cells that differ in their products
  pub record Reached (x₀ x : List (Cell E)) (root : Option ℕ) (done : ℕ) : Type 0 where
    pub kept : Bare x₀ x
    pub all : (n : ℕ) → 0 < n → n ≤ done → ranked x₀ root n ≡ None → ⊥

  pub reached_none : (x : List (Cell E)) (root : Option ℕ) → Reached x x root 0
  reached_none x root = record { kept = refl; all = λ n a w e. omega arith }

  pub reached_more : (x₀ x y : List (Cell E)) (root : Option ℕ) (done place : ℕ) → Reached x₀ x root done → Bare x y → Unreached x y root (done + 1) (Some place) → Reached x₀ y root (done + 1)
  reached_more x₀ x y root done place r e un =
      record {
        kept = e ∙ r.kept;
        all = λ n a w none.
            ⊎_elim
            (λ (lt : n < done + 1). r.all n a (omega arith) none)
            (λ (ge : done + 1 ≤ n).
            let is : n ≡ done + 1 = omega arith in
            none-some (sym (un (ranked_same x₀ x root (done + 1) r.kept ∙ ap (ranked x₀ root) (sym is) ∙ none)).0))
            (cases_lt n (done + 1));
      }
