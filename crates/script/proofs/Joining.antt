-- Parts joined by marks are parted as they were, and a text parted is joined as it was.
use Rattle.std.proofs.Common.{◌≡◌, ℕ, ◌<◌, Bool, true, false, not, ◌&&◌, eqb, List, [], ◌∷◌, ◌++◌, length, sym, refl, ap, ◌∙◌, ⊎_elim, arith}
use Rattle.std.proofs.lemmas.List.{append-nil}
use Rattle.std.proofs.lemmas.Bool.{cases_Bool, and_parts, cond_both, cond-true, cond-false, eq-eqb, eqb-true}
use Rattle.std.specs.List.{flat_map, list_all}
use Rattle.script.specs.Parts.{Bytes, onto, parted, is_free_of, joined, ended_by, closed}
use Rattle.script.specs.Whole.{WholeLine, WholeScript}
use Rattle.script.proofs.Parting.{parted_mark, parted_other}

module _ (mark : ℕ) where
  -- a text without the mark stays before the first part of what follows it
  pub parted_free : (last : List Bytes) (text rest part : Bytes) (parts : List Bytes) → is_free_of mark text ≡ true → parted mark last rest ≡ part ∷ parts → parted mark last (text ++ rest) ≡ (text ++ part) ∷ parts
  parted_free last [] rest part parts free e = e
  parted_free last (b ∷ text) rest part parts free e =
      let both = and_parts (not (eqb b mark)) (is_free_of mark text) free in
      parted_other mark b (text ++ rest) last (differs (eqb b mark) both.0)
      ∙ ap (onto b) (parted_free last text rest part parts both.1 e) where
        differs : (v : Bool) → not v ≡ true → v ≡ false
        differs true n = sym n
        differs false n = refl

  -- so joined parts are parted as they were
  parted_behind : (parts : List Bytes) → list_all (is_free_of mark) parts ≡ true → parted mark ([] ∷ []) (flat_map (λ next. mark ∷ next) parts) ≡ [] ∷ parts
  parted_behind [] free = refl
  parted_behind (part ∷ parts) free =
      let both = and_parts (is_free_of mark part) (list_all (is_free_of mark) parts) free in
      let rest : Bytes = flat_map (λ next. mark ∷ next) parts in
      parted_mark mark mark (part ++ rest) ([] ∷ []) (eq-eqb mark mark refl)
      ∙ ap (λ ps. [] ∷ ps) (parted_free ([] ∷ []) part rest [] parts both.0 (parted_behind parts both.1) ∙ ap (λ p. p ∷ parts) (append-nil part))

  pub parted_joined : (part : Bytes) (parts : List Bytes) → is_free_of mark part ≡ true → list_all (is_free_of mark) parts ≡ true → parted mark ([] ∷ []) (joined mark (part ∷ parts)) ≡ part ∷ parts
  parted_joined part parts free others =
      parted_free ([] ∷ []) part (flat_map (λ next. mark ∷ next) parts) [] parts free (parted_behind parts others) ∙ ap (λ p. p ∷ parts) (append-nil part)

  -- no part holds the mark
  free_onto : (b : ℕ) (parts : List Bytes) → eqb b mark ≡ false → list_all (is_free_of mark) parts ≡ true → list_all (is_free_of mark) (onto b parts) ≡ true
  free_onto b [] e free = ap (λ v. (not v && true) && true) e
  free_onto b (part ∷ parts) e free = ap (λ v. (not v && is_free_of mark part) && list_all (is_free_of mark) parts) e ∙ free

  pub parted_apart : (last : List Bytes) (bs : Bytes) → list_all (is_free_of mark) last ≡ true → list_all (is_free_of mark) (parted mark last bs) ≡ true
  parted_apart last [] free = free
  parted_apart last (b ∷ bs) free =
      ⊎_elim
      (λ (e : eqb b mark ≡ true). ap (list_all (is_free_of mark)) (parted_mark mark b bs last e) ∙ parted_apart last bs free)
      (λ (e : eqb b mark ≡ false). ap (list_all (is_free_of mark)) (parted_other mark b bs last e) ∙ free_onto b (parted mark last bs) e (parted_apart last bs free))
      (cases_Bool (eqb b mark))

  joined_onto : (b : ℕ) (parts : List Bytes) → joined mark (onto b parts) ≡ b ∷ joined mark parts
  joined_onto b [] = refl
  joined_onto b (part ∷ parts) = refl

  joined_behind : (parts : List Bytes) → 0 < length parts → joined mark ([] ∷ parts) ≡ mark ∷ joined mark parts
  joined_behind [] some = absurd (omega arith)
  joined_behind (part ∷ parts) some = refl

  some_onto : (b : ℕ) (parts : List Bytes) → 0 < length (onto b parts)
  some_onto b [] = omega arith
  some_onto b (part ∷ parts) = omega arith

  some_parts : (last : List Bytes) (bs : Bytes) → 0 < length last → 0 < length (parted mark last bs)
  some_parts last [] some = some
  some_parts last (b ∷ bs) some = cond_both (eqb b mark) ([] ∷ parted mark last bs) (onto b (parted mark last bs)) (λ ps. 0 < length ps) (λ e. omega arith) (λ e. some_onto b (parted mark last bs))

  pub parted_together : (bs : Bytes) → joined mark (parted mark ([] ∷ []) bs) ≡ bs
  parted_together [] = refl
  parted_together (b ∷ bs) =
      ⊎_elim
      (λ (e : eqb b mark ≡ true). ap (joined mark) (parted_mark mark b bs ([] ∷ []) e) ∙ joined_behind (parted mark ([] ∷ []) bs) (some_parts ([] ∷ []) bs (omega arith)) ∙ ap (λ t. mark ∷ t) (parted_together bs) ∙ ap (λ n. n ∷ bs) (sym (eqb-true b mark e)))
      (λ (e : eqb b mark ≡ false). ap (joined mark) (parted_other mark b bs ([] ∷ []) e) ∙ joined_onto b (parted mark ([] ∷ []) bs) ∙ ap (λ t. b ∷ t) (parted_together bs))
      (cases_Bool (eqb b mark))

  -- the parts of a text, each with a mark behind it
  ended_onto : (b : ℕ) (parts : List Bytes) → 0 < length parts → ended_by mark (onto b parts) ≡ b ∷ ended_by mark parts
  ended_onto b [] some = absurd (omega arith)
  ended_onto b (part ∷ parts) some = refl

  some_lines : (b : ℕ) (bs : Bytes) → 0 < length (parted mark [] (b ∷ bs))
  some_lines b bs = cond_both (eqb b mark) ([] ∷ parted mark [] bs) (onto b (parted mark [] bs)) (λ ps. 0 < length ps) (λ e. omega arith) (λ e. some_onto b (parted mark [] bs))

  closed_mark : (b : ℕ) (bs : Bytes) → eqb b mark ≡ true → closed mark (b ∷ bs) ≡ b ∷ closed mark bs
  closed_mark b [] e = cond-true (eqb b mark) (b ∷ []) (b ∷ (mark ∷ [])) e
  closed_mark b (c ∷ cs) e = refl

  ended_last : (b : ℕ) (bs : Bytes) → eqb b mark ≡ false → ended_by mark (parted mark [] bs) ≡ closed mark bs → ended_by mark (onto b (parted mark [] bs)) ≡ closed mark (b ∷ bs)
  ended_last b [] e is = sym (cond-false (eqb b mark) (b ∷ []) (b ∷ (mark ∷ [])) e)
  ended_last b (c ∷ cs) e is = ended_onto b (parted mark [] (c ∷ cs)) (some_lines c cs) ∙ ap (λ t. b ∷ t) is

  pub ended_together : (bs : Bytes) → ended_by mark (parted mark [] bs) ≡ closed mark bs
  ended_together [] = refl
  ended_together (b ∷ bs) =
      ⊎_elim
      (λ (e : eqb b mark ≡ true).
      ap (ended_by mark) (parted_mark mark b bs [] e)
      ∙ ap (λ t. mark ∷ t) (ended_together bs)
      ∙ ap (λ n. n ∷ closed mark bs) (sym (eqb-true b mark e))
      ∙ sym (closed_mark b bs e))
      (λ (e : eqb b mark ≡ false). ap (ended_by mark) (parted_other mark b bs [] e) ∙ ended_last b bs e (ended_together bs))
      (cases_Bool (eqb b mark))

pub whole_line : (line : Bytes) → WholeLine line
whole_line line = record { apart = parted_apart 44 ([] ∷ []) line refl; together = parted_together 44 line }

pub whole_script : (script : Bytes) → WholeScript script
whole_script script = record { apart = parted_apart 10 [] script refl; together = ended_together 10 script }
