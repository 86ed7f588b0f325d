use Rattle.std.proofs.Common.{◌≡◌, ◌+◌, ◌%◌, ◌^◌, ◌≤◌, length, take}
use Rattle.monoid.specs.Words.{image_of}
use Rattle.monoid.proofs.fold.word_image.Given as goal

abbrev pub invariant-loop-kind : goal.invariant-loop-kind
invariant-loop-kind g l =
    let r = g.R.Recogniser in
    (l.kind-index ≤ length l.word)
    × (r.meaning l.recogniser ≡ r.meaning l.initial.recogniser)
    × (r.orderly l.initial.recogniser → r.orderly l.recogniser)
    × (r.orderly l.initial.recogniser → l.image ≡ image_of (r.meaning l.initial.recogniser) (take l.kind-index l.word))
    × (r.tally l.recogniser ≡ (r.tally l.initial.recogniser + l.kind-index) % 2 ^ 64)
