use Rattle.std.proofs.Common.{◌≡◌, [], ◌++◌, take, drop, sym, ap, ◌∙◌, subst, append-nil, rules, drop_of_length-le}
use Rattle.std.proofs.lemmas.List.{take_rest}
use Rattle.std.specs.Io.KnownBytes.{Appends}
use Rattle.watch.proofs.Streams.{Appends-then, Appends-kept, moved_on, part_of}
use Rattle.watch.proofs.writing.write_bytes.Goals.{in-Ok, in-Err+else-ne}
use Rattle.watch.proofs.writing.write_bytes.Goals as goal

pub returns-then-is_empty : goal.returns-then-is_empty
returns-then-is_empty g c =
    let (done, split, appended) = c.loop.invariant in
    let empty : c.loop.rest.now ≡ [] = drop_of_length-le c.loop.rest.now {i = 0} (search rules) in
    record { received = subst (Appends _ _) (sym (split ∙ ap (λ l. done ++ l) empty ∙ append-nil done)) appended }

pub returns-in-Ok-eq0 : goal.returns-in-Ok-eq0
returns-in-Ok-eq0 g c =
    let (done, split, appended) = c.loop.invariant in
    let rest = c.loop.rest.now in
    let n = c.in-Ok-eq0.field-0 in
    record { received = part_of _ _ _ (done ++ take n rest) (drop n rest) (moved_on _ done rest n split) (Appends-then _ _ _ done (take n rest) appended c.in-Ok-eq0.ensures.bytes) }

pub returns-then-ne : goal.returns-then-ne
returns-then-ne g c =
    let (done, split, appended) = c.loop.invariant in
    record { received = part_of _ _ _ done c.loop.rest.now split (Appends-kept _ _ _ done appended c.in-Err.ensures.bytes) }

pub loop-preserved : goal.loop-preserved
loop-preserved g c =
    let (done, split, appended) = c.loop.invariant in
    let rest = c.loop.rest.now in
    elim c.match-write.branch [
      | in-Ok w ↦
          let n = w.in-Ok.count in
          let left : c.match-write.rest.now ≡ drop n rest = ap (λ r. r.now) w.rest-is ∙ take_rest rest n in
          (done ++ take n rest, moved_on _ done rest n split ∙ ap (λ r. (done ++ take n rest) ++ r) (sym left), Appends-then _ _ _ done (take n rest) appended w.in-Ok.ensures.bytes)
      | in-Err+else-ne w ↦
          (done, split ∙ ap (λ r. done ++ r.now) (sym w.rest-is), Appends-kept _ _ _ done appended w.in-Err.ensures.bytes)
    ]

pub returns : goal.returns
returns g c =
    let (done, split, appended) = c.loop.invariant in
    record { received = part_of _ _ _ done c.loop.rest.now split appended }
