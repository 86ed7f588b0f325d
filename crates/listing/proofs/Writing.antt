-- Texts written into an output one behind the other.
use Rattle.std.proofs.Common.{◌≡◌, ℕ, ◌+◌, ◌<◌, ◌≤◌, [], ◌∷◌, ◌++◌, length, take, drop, set, sym, refl, ap, ◌∙◌, add-one, arith}
use lib.Seq.{paste}
use Rattle.std.proofs.lemmas.List.Edits.{paste_all, paste-paste}
use Rattle.std.proofs.lemmas.List.{length-append, set_split}
use Rattle.script.specs.Parts.{Bytes}
use Rattle.listing.specs.Outputs.{overwrite}

-- one text written behind another
overwrite_more : (out : Bytes) (at : ℕ) (s t : Bytes) → at ≤ length out → overwrite (overwrite out at s) (at + length s) t ≡ overwrite out at (s ++ t)
overwrite_more out at s t h =
    sym (paste_all (overwrite out at s) (at + length s) t (length t) refl)
    ∙ ap (λ l. paste l (at + length s) t (length t)) (sym (paste_all out at s (length s) refl))
    ∙ paste-paste out at s t (length s) (length t) refl refl h
    ∙ paste_all out at (s ++ t) (length s + length t) (sym (length-append s t))
    ∙ ap (λ n. take at out ++ ((s ++ t) ++ drop (at + n) out)) (sym (length-append s t))

-- one byte written
pub set_is : (out : Bytes) (at byte : ℕ) → at < length out → set out at byte ≡ overwrite out at (byte ∷ [])
set_is out at byte h = set_split out at byte h ∙ ap (λ n. take at out ++ (byte ∷ drop n out)) (sym (add-one at))

-- a text written behind another that ends at `next`, and the place past both
pub then_write : (out between : Bytes) (at next : ℕ) (s t : Bytes) → at ≤ length out → between ≡ overwrite out at s → next ≡ at + length s → overwrite between next t ≡ overwrite out at (s ++ t)
then_write out between at next s t h p q = ap (λ l. overwrite l next t) p ∙ ap (λ i. overwrite (overwrite out at s) i t) q ∙ overwrite_more out at s t h

pub then_place : (at next last : ℕ) (s t : Bytes) → next ≡ at + length s → last ≡ next + length t → last ≡ at + length (s ++ t)
then_place at next last s t p q = omega (arith, length-append s t)
