use Rattle.std.proofs.Common.{◌≡◌, ℕ, ◌+◌, ◌-◌, ◌≤◌, List, ◌++◌, rules, length, take, sym, ap, ◌∙◌, subst, le_refl, length-take-le}
use Rattle.std.proofs.lemmas.Slice.{take-put_mid_below}
use Rattle.std.proofs.lemmas.List.{take-append-le}
use Rattle.std.proofs.Math.Seq.{take-append-add}
use Rattle.std.specs.Io.KnownBytes.{Consumes}
use Rattle.watch.proofs.Streams.{Consumes-then, Consumes-kept}
use borrow.Rule.Slice.PartMut.{put_mid, post_of}
use Rattle.watch.proofs.reading.fill.Goals.{in-Ok, in-Err+else-ne}
use Rattle.watch.proofs.reading.fill.Goals as goal

-- what a read put behind what was filled before
filled_on : (at room n : ℕ) (xs ys : List ℕ) → at ≤ length xs → n ≤ length ys → take (at + n) (put_mid at room xs ys) ≡ take at xs ++ take n ys
filled_on at room n xs ys within fits =
    let after = post_of at room xs in
    ap (λ m. take (m + n) (take at xs ++ (ys ++ after))) (sym (length-take-le at xs within)) ∙ take-append-add (take at xs) (ys ++ after) n ∙ ap (λ l. take at xs ++ l) (take-append-le n ys after fits)

pub loop-preserved : goal.loop-preserved
loop-preserved g c =
    let at = c.loop.filled in
    let room = length c.loop.buffer - at in
    let (within, given) = c.loop.invariant in
    elim c.match-read.branch [
      | in-Ok w ↦
          let more = filled_on at room w.in-Ok.count c.loop.buffer c.read.new.buf within w.in-Ok.ensures.bound.0 in
          let joined = Consumes-then _ _ _ (take at c.loop.buffer) (take w.in-Ok.count c.read.new.buf) given w.in-Ok.ensures.bytes.0 in
          (search rules, subst (Consumes _ _) (sym (ap (λ m. take m (put_mid at room c.loop.buffer c.read.new.buf)) w.filled-is ∙ more)) joined)
      | in-Err+else-ne w ↦
          let same = take-put_mid_below at room c.loop.buffer c.read.new.buf at (le_refl at) within in
          let kept = Consumes-kept _ _ _ (take at c.loop.buffer) given w.in-Err.ensures.bytes in
          (search rules, subst (Consumes _ _) (sym (ap (λ m. take m (put_mid at room c.loop.buffer c.read.new.buf)) w.filled-is ∙ same)) kept)
    ]
