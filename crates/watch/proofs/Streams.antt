-- Bytes that are read or written one part after another.
use Rattle.std.proofs.Common.{◌≡◌, ℕ, min, arith, [], ◌++◌, Option, Some, None, Result, Ok, Err, length, take, drop, refl, sym, ap, ◌∙◌, subst, append_assoc, append-nil, take-append-drop}
use Rattle.std.proofs.Math.Seq.{take-append_seam, take-length}
use Rattle.std.proofs.lemmas.Bool.{false≢true}
use Rattle.std.proofs.lemmas.List.{take-append-le, take_min}
use Rattle.std.specs.Result.{IsErr}
use Rattle.std.specs.Io.KnownBytes.{Appends, Consumes, Keeps}
use Rattle.script.specs.Parts.{Bytes}
use Rattle.watch.specs.Streams.{Received, ReceivedPart, Gave}

pub Appends-none : (a : Option Bytes) → Appends a a []
Appends-none None = tt
Appends-none (Some xs) = sym (append-nil xs)

pub Appends-then : (a b c : Option Bytes) (xs ys : Bytes) → Appends a b xs → Appends b c ys → Appends a c (xs ++ ys)
Appends-then None b c xs ys p q = tt
Appends-then (Some us) None c xs ys p q = absurd p
Appends-then (Some us) (Some vs) None xs ys p q = absurd q
Appends-then (Some us) (Some vs) (Some ws) xs ys p q = q ∙ ap (λ l. l ++ ys) p ∙ append_assoc us xs ys

pub Appends-kept : (a b c : Option Bytes) (xs : Bytes) → Appends a b xs → Keeps b c → Appends a c xs
Appends-kept None b c xs p q = tt
Appends-kept (Some us) None c xs p q = absurd p
Appends-kept (Some us) (Some vs) None xs p q = absurd q
Appends-kept (Some us) (Some vs) (Some ws) xs p q = q ∙ p

pub Consumes-none : (a : Option Bytes) → Consumes a a []
Consumes-none None = tt
Consumes-none (Some xs) = refl

pub Consumes-then : (a b c : Option Bytes) (xs ys : Bytes) → Consumes a b xs → Consumes b c ys → Consumes a c (xs ++ ys)
Consumes-then None b c xs ys p q = tt
Consumes-then (Some us) None c xs ys p q = absurd p
Consumes-then (Some us) (Some vs) None xs ys p q = absurd q
Consumes-then (Some us) (Some vs) (Some ws) xs ys p q = p ∙ ap (λ l. xs ++ l) q ∙ sym (append_assoc xs ys ws)

pub Consumes-kept : (a b c : Option Bytes) (xs : Bytes) → Consumes a b xs → Keeps b c → Consumes a c xs
Consumes-kept None b c xs p q = tt
Consumes-kept (Some us) None c xs p q = absurd p
Consumes-kept (Some us) (Some vs) None xs p q = absurd q
Consumes-kept (Some us) (Some vs) (Some ws) xs p q = p ∙ ap (λ l. xs ++ l) (sym q)

-- what is gone from the rest, where some first bytes of it were received
pub moved_on : (all done rest : Bytes) (n : ℕ) → all ≡ done ++ rest → all ≡ (done ++ take n rest) ++ drop n rest
moved_on all done rest n e = e ∙ ap (λ l. done ++ l) (sym (take-append-drop n rest)) ∙ sym (append_assoc done (take n rest) (drop n rest))

-- what was received is a first part
pub part_of : (a b : Option Bytes) (all done rest : Bytes) → all ≡ done ++ rest → Appends a b done → ReceivedPart a b all
part_of a b all done rest e p = (length done, subst (Appends a b) (sym (ap (take (length done)) e ∙ take-append_seam done rest)) p)

-- a first part of some bytes is one of those and more
pub part_before : (a b : Option Bytes) (xs ys : Bytes) → ReceivedPart a b xs → ReceivedPart a b (xs ++ ys)
part_before a b xs ys (n, p) =
    let m = min n (length xs) in
    (m, subst (Appends a b) (sym (take-append-le m xs ys (omega arith) ∙ take_min n xs)) p)

-- after all of some bytes, a first part of others
pub part_after : (a b c : Option Bytes) (xs ys : Bytes) → Appends a b xs → ReceivedPart b c ys → ReceivedPart a c (xs ++ ys)
part_after a b c xs ys p (n, q) =
    part_of a c (xs ++ ys) (xs ++ take n ys) (drop n ys) (moved_on (xs ++ ys) xs ys n refl) (Appends-then a b c xs (take n ys) p q)

pub nothing_of : (a : Option Bytes) (xs : Bytes) → ReceivedPart a a xs
nothing_of a xs = (0, Appends-none a)

-- one write after another
pub received_then : {X E : Type 0} (a b c : Option Bytes) (xs ys : Bytes) (r : Result X E) → Appends a b xs → Received b c r ys → Received a c r (xs ++ ys)
received_then a b c xs ys (Ok x) p q = Appends-then a b c xs ys p q
received_then a b c xs ys (Err e) p q = part_after a b c xs ys p q

-- no byte, where there is none to be had
pub gave_none : (a : Option Bytes) (most : ℕ) → Gave a a most
gave_none a most = ([], Consumes-none a, omega arith)

pub failed : {X E : Type 0} (a b : Option Bytes) (xs : Bytes) (r : Result X E) → IsErr r → ReceivedPart a b xs → Received a b r xs
failed a b xs (Ok x) e p = absurd (false≢true e)
failed a b xs (Err x) e p = p

-- some first bytes, after which the writer kept what it had
pub received_kept : {X E : Type 0} (a b c : Option Bytes) (xs : Bytes) (r : Result X E) → Appends a b xs → Keeps b c → Received a c r xs
received_kept a b c xs (Ok x) p q = Appends-kept a b c xs p q
received_kept a b c xs (Err e) p q = (length xs, subst (Appends a c) (sym (take-length xs)) (Appends-kept a b c xs p q))
