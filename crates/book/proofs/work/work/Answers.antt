use Rattle.std.proofs.Common.{◌≡◌, ℕ, ◌+◌, List, ◌∷◌, [], ◌++◌, take, drop, get_or, refl, sym, ◌∙◌, subst, arith}
use Rattle.std.proofs.lemmas.List.{take_more, take_more_set, drop-set-lt}
use Rattle.plain.specs.declared.call.Call.{Call}
use Rattle.plain.specs.declared.call.Call.TheVariants.{Open}
use Rattle.calls.specs.declared.outcome.Outcome.{Outcome}
use Rattle.calls.specs.Runs.{WorkedThrough}
use Rattle.calls.proofs.Through.{worked_none, worked_more}
use Rattle.book.proofs.work.work.Goals as goal

pub loop-at-init : goal.loop-at-init
loop-at-init g c =
    let r = g.R.Recogniser in
    let s = c.args.recogniser.now in
    let create = c.create-book in
    record {
      within = omega arith;
      worked = worked_none r.meaning r.orderly r.tally c.args.cells.now s create.new.cells create.result.records (g.met.R.Recogniser.bounded s) create.ensures.created;
      rest = refl {a = drop c.min-worked.result c.args.outcomes.now};
    }

pub loop-at-preserved : goal.loop-at-preserved
loop-at-preserved g c =
    let r = g.R.Recogniser in
    let loop = c.loop-at in
    let inv = loop.invariant in
    let next = c.work_next in
    let s = c.args.recogniser.now in
    let x = c.args.cells.now in
    let calls = c.args.calls.now in
    let outcomes = loop.outcomes in
    let at = loop.at in
    let call = get_or calls at (Open 0) in
    let min_is = c.min-worked.ensures in
    let kept = loop.auto.outcomes in
    let one_call = take_more calls at (Open 0) (omega arith) in
    let one_outcome = take_more_set outcomes at next.result (omega arith) in
    let more = worked_more r.meaning r.orderly r.tally x s loop.cells next.new.cells loop.recogniser next.new.recogniser loop.book.records next.new.book.records (take at calls) (take at outcomes) call next.result inv.worked next.ensures.called next.ensures.runs in
    record {
      within = omega arith;
      worked = subst (λ (os : List Outcome). WorkedThrough r.meaning r.orderly r.tally x next.new.cells s next.new.recogniser next.new.book.records (take (at + 1) calls) os) (sym one_outcome) (subst (λ (cs : List Call). WorkedThrough r.meaning r.orderly r.tally x next.new.cells s next.new.recogniser next.new.book.records cs (take at outcomes ++ (next.result ∷ []))) (sym one_call) more);
      rest = drop-set-lt c.min-worked.result outcomes at next.result c.loop-at-test.true ∙ inv.rest;
    }

pub returns : goal.returns
returns g c =
    let r = g.R.Recogniser in
    let loop = c.loop-at in
    let inv = loop.invariant in
    let all : loop.at ≡ c.min-worked.result = omega arith in
    record {
      value = c.min-worked.ensures;
      worked = (
        loop.book.records,
        subst (λ (n : ℕ). WorkedThrough r.meaning r.orderly r.tally c.args.cells.now loop.cells c.args.recogniser.now loop.recogniser loop.book.records (take n c.args.calls.now) (take n loop.outcomes)) all inv.worked,
      );
      rest = inv.rest;
    }
