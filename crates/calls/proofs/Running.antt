-- A run goes on with any call that keeps what every call promises.
use Rattle.std.proofs.Common.{◌≡◌, ℕ, Bool, true, List, [], ◌∷◌, ◌++◌, map, sym, refl, ap, ◌∙◌, subst}
use Rattle.monoid.specs.Meaning.{Meaning}
use Rattle.plain.specs.declared.call.Call.{Call}
use Rattle.plain.specs.Plain.{PlainBook, refusal, next}
use Rattle.records.specs.declared.records.Records.{Records}
use Rattle.records.specs.Views.{refusal_by}
use Rattle.cells.specs.declared.cell.Cell.{Cell}
use Rattle.calls.specs.declared.outcome.Outcome.{Outcome}
use Rattle.calls.specs.Models.{Model, plain_of}
use Rattle.calls.specs.Sound.{Sound}
use Rattle.calls.specs.Steps.{Answers, Step}
use Rattle.calls.specs.Calls.{Called}
use Rattle.calls.specs.Chains.{BookState, Turn, reached, Link, Chain}
use Rattle.calls.specs.Runs.{through, Stands, Promised, AtEach, Ran, GoesOn}
use Rattle.calls.proofs.Outlining.{refusal_same}
use Rattle.calls.proofs.Only.{only_model}

-- two states with the same parts are one
state_same : {S E : Type 0} (t u : BookState S E) → t.records ≡ u.records → t.cells ≡ u.cells → t.recogniser ≡ u.recogniser → t ≡ u
state_same {S} {E} t u records cells recogniser =
    let first : t ≡ record { records = u.records; cells = t.cells; recogniser = t.recogniser } = ap {B = BookState S E} (λ (v : Records). record { records = v; cells = t.cells; recogniser = t.recogniser }) records in
    let second : ◌≡◌ {A = BookState S E} (record { records = u.records; cells = t.cells; recogniser = t.recogniser }) (record { records = u.records; cells = u.cells; recogniser = t.recogniser }) = ap {B = BookState S E} (λ (v : List (Cell E)). record { records = u.records; cells = v; recogniser = t.recogniser }) cells in
    first ∙ second ∙ ap {B = BookState S E} (λ (v : S). record { records = u.records; cells = u.cells; recogniser = v }) recogniser

-- one turn more is the last
pub reached_more : {S E : Type 0} (from : BookState S E) (turns : List (Turn S E)) (turn : Turn S E) → reached from (turns ++ (turn ∷ [])) ≡ turn.left
reached_more from [] turn = refl
reached_more from (t ∷ turns) turn = reached_more t.left turns turn

module _ {S E : Type 0} (meaning : S → Meaning E) (orderly : S → Type 0) (tally : S → ℕ) where
  chain_more : (from : BookState S E) (turns : List (Turn S E)) (turn : Turn S E) → Chain meaning orderly tally from turns → Link meaning orderly tally (reached from turns) turn → Chain meaning orderly tally from (turns ++ (turn ∷ []))
  chain_more from [] turn chain link = (link, tt)
  chain_more from (t ∷ turns) turn chain link = (chain.0, chain_more t.left turns turn chain.1 link)

  module _ (lawful : Bool) (m : Meaning E) (capacity : ℕ) where
    -- a state of the run: its book is sound and stands for the plain book, and its recogniser is what the first one was
    pub record At (book : PlainBook) (state : BookState S E) (model : Model E) : Type 0 where
      pub same : meaning state.recogniser ≡ m
      pub capacity_is : state.records.capacity ≡ capacity
      pub ordered : lawful ≡ true → orderly state.recogniser
      pub sound : Sound lawful m state.records state.cells model
      pub book_is : plain_of model ≡ book

    module _ (book : PlainBook) (from : BookState S E) (before : Model E) (turn : Turn S E) (at : At book from before) (link : Link meaning orderly tally from turn) where
      -- after a turn
      pub at_next : (after : Model E) → Stands lawful m (next capacity book turn.call) turn.left after → At (next capacity book turn.call) turn.left after
      at_next after stands = record {
        same = link.same ∙ at.same;
        capacity_is = link.capacity ∙ at.capacity_is;
        ordered = λ law. link.order (at.ordered law);
        sound = stands.sound;
        book_is = stands.book_is;
      }

      -- the step of the turn
      stepped : (after : Model E) × Step lawful m capacity before turn.call turn.outcome after × Sound lawful m turn.left.records turn.left.cells after
      stepped =
          let worked = link.works lawful at.ordered before (subst (λ (n : Meaning E). Sound lawful n from.records from.cells before) (sym at.same) at.sound) in (
            worked.0,
            subst (λ (k : ℕ). Step lawful m k before turn.call turn.outcome worked.0) at.capacity_is
                (subst (λ (n : Meaning E). Step lawful n from.records.capacity before turn.call turn.outcome worked.0) at.same worked.1),
            subst (λ (n : Meaning E). Sound lawful n turn.left.records turn.left.cells worked.0) at.same worked.2,
          )

      pub turn_kept : (after : Model E) × Promised lawful m capacity book from before turn after × Stands lawful m (next capacity book turn.call) turn.left after
      turn_kept =
          let after = stepped.0 in
          let step = stepped.1 in
          let sound = stepped.2 in
          let asked : turn.outcome.refusal ≡ refusal_by from.records turn.call =
          step.answers.refusal_is ∙ ap (λ k. refusal k (plain_of before) turn.call) (sym at.capacity_is) ∙ sym (refusal_same from.records before at.sound.said turn.call) in (
            after,
            record {
              answers = subst (λ (p : PlainBook). Answers lawful m capacity p turn.call turn.outcome) at.book_is step.answers;
              bounded = step.bounded;
              leaves = step.leaves;
              declined = λ reason is.
                  let declined = link.declined reason (sym asked ∙ is) in
                  state_same turn.left from declined.records_same declined.cells_same declined.recogniser_same;
              renewed = step.renewed;
            },
            record {
              sound = sound;
              only = λ other held. only_model lawful m turn.left.records turn.left.cells after other sound held;
              book_is = step.book_is ∙ ap (λ (p : PlainBook). next capacity p turn.call) at.book_is;
            },
          )

    -- the promises at each turn, with one turn more
    each_more : (book : PlainBook) (from : BookState S E) (before : Model E) (turns : List (Turn S E)) (turn : Turn S E) → At book from before → Chain meaning orderly tally from turns → Link meaning orderly tally (reached from turns) turn → AtEach lawful m capacity book from before turns → AtEach lawful m capacity book from before (turns ++ (turn ∷ []))
    each_more book from before [] turn at chain link each = let kept = turn_kept book from before turn at link in (kept.0, kept.1, kept.2, tt)
    each_more book from before (t ∷ turns) turn at chain link each = (
      each.0,
      each.1,
      each.2,
      each_more (next capacity book t.call) t.left each.0 turns turn (at_next book from before t at chain.0 each.0 each.2) chain.1 link each.3,
    )

    -- what is so of the first state and stays so is so of the last
    pub at_last : (book : PlainBook) (from : BookState S E) (before : Model E) (turns : List (Turn S E)) → At book from before → Chain meaning orderly tally from turns → AtEach lawful m capacity book from before turns → (model : Model E) × At (through capacity book (map (λ (turn : Turn S E). turn.call) turns)) (reached from turns) model
    at_last book from before [] at chain each = (before, at)
    at_last book from before (t ∷ turns) at chain each = at_last (next capacity book t.call) t.left each.0 turns (at_next book from before t at chain.0 each.0 each.2) chain.1 each.3

  module _ (first : BookState S E) (turns : List (Turn S E)) (ran : Ran meaning orderly tally first turns) where
    -- the first state, with no sheet
    at_first : (lawful : Bool) → (lawful ≡ true → orderly first.recogniser) → At lawful (meaning first.recogniser) first.records.capacity [] first []
    at_first lawful ordered = record {
      same = refl;
      capacity_is = refl;
      ordered = ordered;
      sound = ran.created lawful (meaning first.recogniser);
      book_is = refl;
    }

    -- the state that the run led to
    pub at_end : (lawful : Bool) → (lawful ≡ true → orderly first.recogniser) → (model : Model E) × At lawful (meaning first.recogniser) first.records.capacity (through first.records.capacity [] (map (λ (turn : Turn S E). turn.call) turns)) (reached first turns) model
    at_end lawful ordered = at_last lawful (meaning first.recogniser) first.records.capacity [] first [] turns (at_first lawful ordered) ran.chain (ran.promised lawful ordered)

    -- one turn more
    pub ran_more : (turn : Turn S E) → Link meaning orderly tally (reached first turns) turn → Ran meaning orderly tally first (turns ++ (turn ∷ []))
    ran_more turn link = record {
      created = ran.created;
      chain = chain_more first turns turn ran.chain link;
      promised = λ lawful ordered. each_more lawful (meaning first.recogniser) first.records.capacity [] first [] turns turn (at_first lawful ordered) ran.chain link (ran.promised lawful ordered);
    }

  pub goes_on : (b b' : Records) (x y : List (Cell E)) (s s' : S) (call : Call) (r : Outcome) → Called meaning orderly tally b b' x y s s' call r → GoesOn meaning orderly tally b b' x y s s' call r
  goes_on b b' x y s s' call r called first turns ran is =
      let turn : Turn S E = record { call = call; outcome = r; left = record { records = b'; cells = y; recogniser = s' } } in
      ran_more first turns ran turn (subst (λ (from : BookState S E). Link meaning orderly tally from turn) (sym is) called)
