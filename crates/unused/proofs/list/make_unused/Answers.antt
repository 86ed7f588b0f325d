use Rattle.std.proofs.Common.{◌≡◌, ◌+◌, sym, ◌∙◌, subst, arith}
use Rattle.unused.specs.declared.list.Unused.{Unused}
use Rattle.unused.proofs.Threading.{Threading, threading_none, threading_more, prepared}
use Rattle.unused.proofs.list.make_unused.Goals as goal

pub loop-place-init : goal.loop-place-init
loop-place-init g c = threading_none c.args.cells.now

pub loop-place-preserved : goal.loop-place-preserved
loop-place-preserved g c =
    let l = c.loop-place in
    let told = c.thread-unused.ensures in
    let more = threading_more c.args.cells.now l.cells c.thread-unused.new.cells l.unused.first l.place l.invariant told.after in
    subst (λ (v : Unused). Threading c.args.cells.now c.thread-unused.new.cells v.first (l.place + 1)) (sym told.value) more

pub returns : goal.returns
returns g c =
    let l = c.loop-place in
    let ends : l.place ≡ c.capacity-end.result = omega arith in
    record { value = prepared c.args.cells.now l.cells l.unused.first l.place (ends ∙ c.capacity-end.ensures.value) l.invariant }
