use Rattle.std.proofs.Common.{◌≡◌, ℕ, ◌+◌, ◌<◌, ◌≤◌, true, false, length, refl, sym, subst, arith}
use Rattle.std.proofs.lemmas.Bool.{eqb-true}
use Rattle.script.specs.Lines.{first_line}
use Rattle.script.specs.Parts.{Bytes}
use Rattle.script.specs.Said.{said}
use Rattle.script.specs.Seen.{seen}
use Rattle.script.proofs.Parting.{some-length}
use Rattle.listing.specs.Answers.{text_of, answer_to}
use Rattle.listing.specs.declared.answer.Answer.{Answer}
use Rattle.listing.proofs.Listing.{listed}
use Rattle.runs.specs.Told.{Told}
use Rattle.runs.proofs.Keeping.{kept}
use Rattle.runs.proofs.Telling.{told_bytes, told_ends, told_complete, told_full, told_too_long}
use Rattle.runs.proofs.Turning.{Going, going_none, going_more, room_left, written_as}
use Rattle.runs.proofs.run.run_script.Goals as goal

pub returns-then-not-is_workable : goal.returns-then-not-is_workable
returns-then-not-is_workable g c =
    let r = g.R.Recogniser in
    let script : Bytes = c.args.script.now in
    let x = c.args.cells.now in
    let s = c.args.recogniser.now in
    let out : Bytes = c.args.out.now in
    let told =
    subst (λ (k : ℕ). Told r.meaning r.orderly r.tally script x x s s out out (k, 0, 0)) (sym c.number.ensures.value)
    (told_too_long r.meaning r.orderly r.tally script x s out (sym c.if-not-is_workable.ensures.value)) in
    record { told = told; ends = told_ends r.meaning r.orderly r.tally script x s out _ _ _ _ told; listed = listed script; bytes = told_bytes r.meaning r.orderly r.tally script x s out x s out (c.number.result, 0, 0) told }

pub loop-book-init : goal.loop-book-init
loop-book-init g c =
    let r = g.R.Recogniser in
    let script : Bytes = c.args.script.now in
    let x = c.args.cells.now in
    let s = c.args.recogniser.now in
    let out : Bytes = c.args.out.now in
    let create = c.create-book in
    let none = going_none r.meaning r.orderly r.tally script x s out create.result.records create.new.cells (g.met.R.Recogniser.bounded s) create.ensures.created in
    subst (λ (rest : Bytes). Going r.meaning r.orderly r.tally script x s out 0 0 create.result.records create.new.cells s rest out) (sym c.over-cursor.ensures.shows) none

pub returns-then-not-has_room : goal.returns-then-not-has_room
returns-then-not-has_room g c =
    let r = g.R.Recogniser in
    let loop = c.loop-book in
    let script : Bytes = c.args.script.now in
    let x = c.args.cells.now in
    let s = c.args.recogniser.now in
    let out : Bytes = c.args.out.now in
    let n : ℕ = loop.lines in
    let w : ℕ = loop.written in
    let rest : Bytes = seen script loop.cursor in
    let some : 0 < length rest = some-length rest (sym c.loop-book-test.ensures.value) in
    let full = room_left false c.saturating_sub.result (length loop.out) (length out) w c.saturating_sub.ensures loop.auto.out c.if-not-has_room.ensures.value in
    let told =
    subst (λ (k : ℕ). Told r.meaning r.orderly r.tally script x loop.cells s loop.recogniser out loop.out (k, n, w)) (sym c.number-then-not-has_room.ensures.value)
    (told_full r.meaning r.orderly r.tally script x s out n w loop.book.records loop.cells loop.recogniser rest loop.out loop.invariant (sym c.if-not-is_workable.ensures.value) some (sym full)) in
    record { told = told; ends = told_ends r.meaning r.orderly r.tally script x s out _ _ _ _ told; listed = listed script; bytes = told_bytes r.meaning r.orderly r.tally script x s out loop.cells loop.recogniser loop.out (c.number-then-not-has_room.result, n, w) told }

pub loop-book-preserved : goal.loop-book-preserved
loop-book-preserved g c =
    let r = g.R.Recogniser in
    let loop = c.loop-book in
    let script : Bytes = c.args.script.now in
    let out : Bytes = c.args.out.now in
    let worked = c.work_line-worked in
    let write = c.write_answer-written in
    let rest : Bytes = seen script loop.cursor in
    let left : Bytes = seen script worked.new.cursor in
    let n : ℕ = loop.lines + 1 in
    let w : ℕ = loop.written in
    let answer : Answer = answer_to n worked.result in
    let some : 0 < length rest = some-length rest (sym c.loop-book-test.ensures.value) in
    let line = kept r.meaning r.orderly r.tally loop.book.records worked.new.book.records loop.cells worked.new.cells loop.recogniser worked.new.recogniser n (g.met.R.Recogniser.shaped loop.recogniser) (said n (first_line rest)) worked.result worked.ensures.value in
    let free = room_left true c.saturating_sub.result (length loop.out) (length out) w c.saturating_sub.ensures loop.auto.out c.if-not-has_room.ensures.value in
    let wrote = written_as c.to.result answer loop.out write.new.out w write.result c.to.ensures.value write.ensures.value write.ensures.after in
    let within : write.result ≤ length out = omega (arith, write.ensures.bound, loop.auto.out) in
    going_more r.meaning r.orderly r.tally script c.args.cells.now c.args.recogniser.now out loop.lines w write.result loop.book.records worked.new.book.records loop.cells worked.new.cells loop.recogniser worked.new.recogniser rest left loop.out write.new.out (said n (first_line rest)) (text_of answer) loop.invariant line some worked.ensures.after refl (sym free) wrote.0 within wrote.1

pub returns : goal.returns
returns g c =
    let r = g.R.Recogniser in
    let loop = c.loop-book in
    let script : Bytes = c.args.script.now in
    let x = c.args.cells.now in
    let s = c.args.recogniser.now in
    let out : Bytes = c.args.out.now in
    let n : ℕ = loop.lines in
    let w : ℕ = loop.written in
    let rest : Bytes = seen script loop.cursor in
    let end : length rest ≡ 0 = eqb-true (length rest) 0 (sym c.loop-book-test.ensures.value) in
    let told =
    subst (λ (k : ℕ). Told r.meaning r.orderly r.tally script x loop.cells s loop.recogniser out loop.out (k, n, w)) (sym c.number-2.ensures.value)
    (told_complete r.meaning r.orderly r.tally script x s out n w loop.book.records loop.cells loop.recogniser rest loop.out loop.invariant (sym c.if-not-is_workable.ensures.value) end) in
    record { told = told; ends = told_ends r.meaning r.orderly r.tally script x s out _ _ _ _ told; listed = listed script; bytes = told_bytes r.meaning r.orderly r.tally script x s out loop.cells loop.recogniser loop.out (c.number-2.result, n, w) told }
