-- Parts of a script between two places: a first mark is found byte by byte, and nothing shows past the script's end.
use Rattle.std.proofs.Common.{◌≡◌, ℕ, ◌+◌, ◌-◌, ◌<◌, ◌≤◌, min, ltb, [], length, take, drop, sym, ap, ◌∙◌, ⊎_elim, arith}
use Rattle.std.proofs.lemmas.List.Edits.{between_none, length-between}
use Rattle.std.proofs.lemmas.List.{take-take, drop-take, drop-drop, drop_all}
use Rattle.std.proofs.lemmas.Slice.{between_to_end}
use Rattle.std.proofs.lemmas.Bool.{cases_lt, cond-true, cond-false, lt-ltb, le-ltb}
use Rattle.std.specs.List.{between}
use Rattle.script.specs.declared.cursor.Cursor.{Cursor}
use Rattle.script.specs.Parts.{Bytes}
use Rattle.script.specs.Seen.{seen, Within, following}

pub length_seen : (s : Bytes) (c : Cursor) → Within s c → length (seen s c) ≡ c.end - c.place
length_seen s c w = length-between s c.place c.end w.inside

-- a part of what is shown, from its start, and what is past the byte behind that part
module _ (s : Bytes) (place end n : ℕ) (fits : end ≤ length s) (within : n ≤ length (between place end s)) where
  long : length (between place end s) ≡ end - place
  long = length-between s place end fits

  pub between_front : between place (place + n) s ≡ take n (between place end s)
  between_front =
      let e : place + n - place ≡ n = omega arith in
      ap (λ m. take m (drop place s)) e ∙ sym (take-take n (end - place) (drop place s) (omega (arith, long)))

  pub between_past_byte : place ≤ end → between (following (place + n) end) end s ≡ drop (n + 1) (between place end s)
  between_past_byte order =
      ⊎_elim
      (λ (more : place + n < end).
      let m : ℕ = end - (place + n + 1) in
      let whole : end - place ≡ n + 1 + m = omega arith in
      let from : place + (n + 1) ≡ place + n + 1 = omega arith in
      ap (λ k. between k end s) (cond-true (ltb (place + n) end) (place + n + 1) end (lt-ltb (place + n) end more))
      ∙ sym (ap (λ k. drop (n + 1) (take k (drop place s))) whole ∙ drop-take (n + 1) m (drop place s) ∙ ap (take m) (drop-drop (n + 1) place s ∙ ap (λ k. drop k s) from)))
      (λ (last : end ≤ place + n).
      ap (λ k. between k end s) (cond-false (ltb (place + n) end) (place + n + 1) end (le-ltb (place + n) end last))
      ∙ between_none s end ∙ sym (drop_all (n + 1) (between place end s) (omega (arith, long))))
      (cases_lt (place + n) end)

-- nothing lies between a place and an end that is not past it
pub between_nothing : (s : Bytes) (p e : ℕ) → e ≤ p → between p e s ≡ []
between_nothing s p e h = let z : e - p ≡ 0 = omega arith in ap (λ n. take n (drop p s)) z

-- an end past the script's shows what the script's end shows
pub between_past : (s : Bytes) (p e : ℕ) → length s ≤ e → between p e s ≡ between p (length s) s
between_past s p e h = between_to_end s p e h ∙ sym (between_to_end s p (length s) (omega arith))

-- a place and an end brought into the script show the same
pub between_inside : (s : Bytes) (p e : ℕ) → between (min p (min e (length s))) (min e (length s)) s ≡ between p e s
between_inside s p e =
    let n : ℕ = min e (length s) in
    let same : between p n s ≡ between p e s =
    ⊎_elim
    (λ (h : e < length s). let i : n ≡ e = omega arith in ap (λ m. between p m s) i)
    (λ (h : length s ≤ e). let i : n ≡ length s = omega arith in ap (λ m. between p m s) i ∙ sym (between_past s p e h))
    (cases_lt e (length s)) in
    ⊎_elim
    (λ (h : p < n). let i : min p n ≡ p = omega arith in ap (λ m. between m n s) i ∙ same)
    (λ (h : n ≤ p). let i : min p n ≡ n = omega arith in ap (λ m. between m n s) i ∙ between_none s n ∙ sym (between_nothing s p n h) ∙ same)
    (cases_lt p n)

-- past a line that is found inside the script, the old end shows what the end inside shows
pub between_behind : (s : Bytes) (stop e n : ℕ) → n ≡ min e (length s) → stop ≤ n → between (following stop e) e s ≡ between (following stop n) n s
between_behind s stop e n is h =
    ⊎_elim
    (λ (k : n < e).
    let i : n ≡ length s = omega arith in
    let long : following stop e ≡ stop + 1 = cond-true (ltb stop e) (stop + 1) e (lt-ltb stop e (omega arith)) in
    ap (λ m. between m e s) long ∙ between_past s (stop + 1) e (omega arith) ∙ ap (λ m. between (stop + 1) m s) (sym i)
    ∙ ⊎_elim
    (λ (some : stop < n). ap (λ m. between m n s) (sym (cond-true (ltb stop n) (stop + 1) n (lt-ltb stop n some))))
    (λ (none : n ≤ stop).
    between_nothing s (stop + 1) n (omega arith)
    ∙ sym (ap (λ m. between m n s) (cond-false (ltb stop n) (stop + 1) n (le-ltb stop n none)) ∙ between_none s n))
    (cases_lt stop n))
    (λ (k : e ≤ n). let i : n ≡ e = omega arith in ap (λ m. between (following stop m) m s) (sym i))
    (cases_lt n e)
