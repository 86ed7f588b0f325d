-- What holds of calls that were worked through holds after one call more.
use Rattle.std.proofs.Common.{◌≡◌, ℕ, ◌^◌, ◌<◌, List, [], ◌∷◌, ◌++◌, map, drop, Bool, true, sym, refl, ap, ◌∙◌, subst, arith}
use Rattle.std.proofs.lemmas.List.{map-append}
use Rattle.std.proofs.lemmas.List.Sums.{sum_by-append}
use Rattle.monoid.specs.Meaning.{Meaning}
use Rattle.plain.specs.declared.call.Call.{Call}
use Rattle.records.specs.declared.records.Records.{Records}
use Rattle.cells.specs.declared.cell.Cell.{Cell}
use Rattle.calls.specs.declared.outcome.Outcome.{Outcome}
use Rattle.calls.specs.Calls.{Called}
use Rattle.calls.specs.Steps.{Answers}
use Rattle.calls.specs.Chains.{BookState, Turn, reached, Link}
use Rattle.calls.specs.Runs.{through, Created, Ran, GoesOn, WorkedThrough}
use Rattle.calls.proofs.Running.{reached_more, turn_kept, at_end}

module _ {S E : Type 0} (meaning : S → Meaning E) (orderly : S → Type 0) (tally : S → ℕ) (x : List (Cell E)) (s : S) where
  -- no turn yet
  pub ran_none : (y : List (Cell E)) (b : Records) → Created x b y → Ran meaning orderly tally (record { records = b; cells = y; recogniser = s }) []
  ran_none y b created = record { created = created.sound; chain = tt; promised = λ lawful ordered. tt }

  -- no call yet
  pub worked_none : (y : List (Cell E)) (b : Records) → tally s < 2 ^ 64 → Created x b y → WorkedThrough meaning orderly tally x y s s b [] []
  worked_none y b fits created = record {
    first = record { records = b; cells = y; recogniser = s };
    created = created;
    recogniser_is = refl;
    turns = [];
    calls_are = refl;
    outcomes_are = refl;
    ran = ran_none y b created;
    reached_is = refl;
    capacity = created.capacity;
    outside = created.outside;
    same = refl;
    order = λ o. o;
    counted = omega arith;
  }

  -- one call more, whose turn is put behind those before it
  pub worked_more : (y z : List (Cell E)) (s1 s2 : S) (b b' : Records) (calls : List Call) (outcomes : List Outcome) (call : Call) (r : Outcome) → WorkedThrough meaning orderly tally x y s s1 b calls outcomes → Called meaning orderly tally b b' y z s1 s2 call r → GoesOn meaning orderly tally b b' y z s1 s2 call r → WorkedThrough meaning orderly tally x z s s2 b' (calls ++ (call ∷ [])) (outcomes ++ (r ∷ []))
  worked_more y z s1 s2 b b' calls outcomes call r so_far called goes =
      let left : BookState S E = record { records = b'; cells = z; recogniser = s2 } in
      let turn : Turn S E = record { call = call; outcome = r; left = left } in
      record {
        first = so_far.first;
        created = so_far.created;
        recogniser_is = so_far.recogniser_is;
        turns = so_far.turns ++ (turn ∷ []);
        calls_are = map-append (λ (t : Turn S E). t.call) so_far.turns (turn ∷ []) ∙ ap (λ cs. cs ++ (call ∷ [])) so_far.calls_are;
        outcomes_are = map-append (λ (t : Turn S E). t.outcome) so_far.turns (turn ∷ []) ∙ ap (λ os. os ++ (r ∷ [])) so_far.outcomes_are;
        ran = goes so_far.first so_far.turns so_far.ran so_far.reached_is;
        reached_is = reached_more so_far.first so_far.turns turn;
        capacity = called.capacity ∙ so_far.capacity;
        outside = ap (λ n. drop n z) called.capacity ∙ called.outside ∙ so_far.outside ∙ ap (λ n. drop n x) (sym called.capacity);
        same = called.same ∙ so_far.same;
        order = λ o. called.order (so_far.order o);
        counted = let a = so_far.counted in let c = called.counted in let e = sum_by-append (λ (v : Outcome). v.count) outcomes (r ∷ []) in omega arith;
      }

  -- the answer to one call more is that of the plain book through the calls before it
  pub answers_next : (y z : List (Cell E)) (s1 s2 : S) (b b' : Records) (calls : List Call) (outcomes : List Outcome) (call : Call) (r : Outcome) → WorkedThrough meaning orderly tally x y s s1 b calls outcomes → Called meaning orderly tally b b' y z s1 s2 call r → (lawful : Bool) → (lawful ≡ true → orderly s) → Answers lawful (meaning s) b.capacity (through b.capacity [] calls) call r
  answers_next y z s1 s2 b b' calls outcomes call r so_far called lawful ordered =
      let first = so_far.first in
      let m = meaning first.recogniser in
      let turn : Turn S E = record { call = call; outcome = r; left = record { records = b'; cells = z; recogniser = s2 } } in
      let end = at_end meaning orderly tally first so_far.turns so_far.ran lawful (λ law. subst orderly (sym so_far.recogniser_is) (ordered law)) in
      let link = subst (λ (from : BookState S E). Link meaning orderly tally from turn) (sym so_far.reached_is) called in
      let kept = turn_kept meaning orderly tally lawful m first.records.capacity _ (reached first so_far.turns) end.0 turn end.1 link in
      let capacity : first.records.capacity ≡ b.capacity = so_far.created.capacity ∙ sym so_far.capacity in
      subst (λ (n : Meaning E). Answers lawful n b.capacity (through b.capacity [] calls) call r) (ap meaning so_far.recogniser_is)
      (subst (λ (cs : List Call). Answers lawful m b.capacity (through b.capacity [] cs) call r) so_far.calls_are
      (subst (λ (k : ℕ). Answers lawful m k (through k [] (map (λ (t : Turn S E). t.call) so_far.turns)) call r) capacity kept.1.answers))

  -- where nothing was changed, nothing more was worked
  pub worked_still : (y z : List (Cell E)) (s1 s2 : S) (b b' : Records) (calls : List Call) (outcomes : List Outcome) → b' ≡ b → z ≡ y → s2 ≡ s1 → WorkedThrough meaning orderly tally x y s s1 b calls outcomes → WorkedThrough meaning orderly tally x z s s2 b' calls outcomes
  worked_still y z s1 s2 b b' calls outcomes records cells recogniser so_far =
      subst (λ (v : Records). WorkedThrough meaning orderly tally x z s s2 v calls outcomes) (sym records)
      (subst (λ (v : List (Cell E)). WorkedThrough meaning orderly tally x v s s2 b calls outcomes) (sym cells)
      (subst (λ (v : S). WorkedThrough meaning orderly tally x y s v b calls outcomes) (sym recogniser) so_far))
