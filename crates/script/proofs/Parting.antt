-- The parts of a text, one at a time.
use Rattle.std.proofs.Common.{◌≡◌, ℕ, zero, suc, ◌+◌, ◌<◌, ◌≤◌, Bool, true, false, not, cond, eqb, ltb, Bor, List, [], ◌∷◌, ◌++◌, map, min, length, get_or, take, drop, Some, None, Option, sym, subst, refl, ap, ◌∙◌, ⊎_elim, arith}
use Rattle.std.proofs.lemmas.List.{drop_all, nil_from_length}
use Rattle.std.proofs.lemmas.List.Sums.{prefix_len-le-length, position_or_len_is}
use Rattle.std.proofs.Math.Seq.{drop-append_seam}
use Rattle.std.specs.List.{slice_split, onto_first, position_or_len, IsFirstMatchOrLen}
use Rattle.std.specs.Option.{unwrap_or, MatchOption}
use Rattle.std.specs.Fn.{ComputesKey, CalledAt}
use Rattle.std.specs.Slice.Iter.{split_inclusive_rest, split_inclusive_callee}
use Rattle.std.specs.declared.slice.SplitInclusive.{SplitInclusive}
use denote.Param.Members.{Mut}
use Rattle.std.proofs.lemmas.Fn.{always_returns_same}
use Rattle.std.proofs.lemmas.Iterator.{YieldsList}
use Rattle.std.proofs.lemmas.Iterator.Splits.{YieldsList-from_shown_while}
use Rattle.std.proofs.lemmas.Bool.{cases_Bool, cases_lt, cond-true, cond-false, eqb-false, ltb-false, cond_both}
use Rattle.script.specs.Parts.{Bytes, upto, past, onto, parted}
use Rattle.script.specs.Lines.{lines, first_line, other_lines, Passed}
use Rattle.script.specs.Fields.{comma, fields}

module _ (mark : ℕ) (b : ℕ) (bs : Bytes) where
  -- a byte that is the mark, and one that is not
  pub upto_mark : eqb b mark ≡ true → upto mark (b ∷ bs) ≡ []
  upto_mark e = cond-true (eqb b mark) [] (b ∷ upto mark bs) e

  pub upto_other : eqb b mark ≡ false → upto mark (b ∷ bs) ≡ b ∷ upto mark bs
  upto_other e = cond-false (eqb b mark) [] (b ∷ upto mark bs) e

  pub past_mark : eqb b mark ≡ true → past mark (b ∷ bs) ≡ bs
  past_mark e = cond-true (eqb b mark) bs (past mark bs) e

  pub past_other : eqb b mark ≡ false → past mark (b ∷ bs) ≡ past mark bs
  past_other e = cond-false (eqb b mark) bs (past mark bs) e

  module _ (last : List Bytes) where
    pub parted_mark : eqb b mark ≡ true → parted mark last (b ∷ bs) ≡ [] ∷ parted mark last bs
    parted_mark e = cond-true (eqb b mark) ([] ∷ parted mark last bs) (onto b (parted mark last bs)) e

    pub parted_other : eqb b mark ≡ false → parted mark last (b ∷ bs) ≡ onto b (parted mark last bs)
    parted_other e = cond-false (eqb b mark) ([] ∷ parted mark last bs) (onto b (parted mark last bs)) e

pub some-length : (bs : Bytes) → eqb (length bs) 0 ≡ false → 0 < length bs
some-length bs e = let ne = eqb-false (length bs) 0 e in omega arith

-- what stands past the first mark is not longer
pub past-le : (mark : ℕ) (bs : Bytes) → length (past mark bs) ≤ length bs
past-le mark [] = omega arith
past-le mark (b ∷ bs) =
    ⊎_elim
    (λ (e : eqb b mark ≡ true). omega (arith, ap length (past_mark mark b bs e)))
    (λ (e : eqb b mark ≡ false). omega (arith, ap length (past_other mark b bs e), past-le mark bs))
    (cases_Bool (eqb b mark))

pub past_less : (mark : ℕ) (bs : Bytes) → 0 < length bs → length (past mark bs) < length bs
past_less mark [] h = absurd (omega arith)
past_less mark (b ∷ bs) h =
    ⊎_elim
    (λ (e : eqb b mark ≡ true). omega (arith, ap length (past_mark mark b bs e)))
    (λ (e : eqb b mark ≡ false). omega (arith, ap length (past_other mark b bs e), past-le mark bs))
    (cases_Bool (eqb b mark))

-- a text that is not empty: its first line, and the lines past that
lines_from : (b : ℕ) (bs : Bytes) → onto b (lines bs) ≡ (b ∷ first_line bs) ∷ lines (other_lines bs) → lines (b ∷ bs) ≡ first_line (b ∷ bs) ∷ lines (other_lines (b ∷ bs))
lines_from b bs more =
    ⊎_elim
    (λ (e : eqb b 10 ≡ true). parted_mark 10 b bs [] e
    ∙ ap (λ l. l ∷ lines bs) (sym (upto_mark 10 b bs e))
    ∙ ap (λ l. first_line (b ∷ bs) ∷ lines l) (sym (past_mark 10 b bs e)))
    (λ (e : eqb b 10 ≡ false). parted_other 10 b bs [] e
    ∙ more
    ∙ ap (λ l. l ∷ lines (other_lines bs)) (sym (upto_other 10 b bs e))
    ∙ ap (λ l. first_line (b ∷ bs) ∷ lines l) (sym (past_other 10 b bs e)))
    (cases_Bool (eqb b 10))

onto-lines : (b : ℕ) (bs : Bytes) → onto b (lines bs) ≡ (b ∷ first_line bs) ∷ lines (other_lines bs)
onto-lines b [] = refl
onto-lines b (x ∷ bs) = ap (onto b) (lines_from x bs (onto-lines x bs))

pub lines-front : (bs : Bytes) → 0 < length bs → lines bs ≡ first_line bs ∷ lines (other_lines bs)
lines-front [] h = absurd (omega arith)
lines-front (b ∷ bs) h = lines_from b bs (onto-lines b bs)

pub passed : (text rest : Bytes) → rest ≡ other_lines text → Passed text rest
passed text rest e =
    record {
      after = e;
      items = λ some. lines-front text some ∙ ap (λ t. first_line text ∷ lines t) (sym e);
      bound = λ some. omega (arith, ap length e, past_less 10 text some);
    }

-- the fields are the parts that the library's `split` gives
onto-first : (b : ℕ) (parts : List Bytes) → onto b parts ≡ onto_first b parts
onto-first b [] = refl
onto-first b (part ∷ parts) = refl

pub fields_split : (bs : Bytes) → fields bs ≡ slice_split (λ b. eqb b 44) bs
fields_split [] = refl
fields_split (b ∷ bs) = ap (λ ps. cond (eqb b 44) ([] ∷ ps) (onto b ps)) (fields_split bs) ∙ ap (cond (eqb b 44) ([] ∷ slice_split (λ x. eqb x 44) bs)) (onto-first b (slice_split (λ x. eqb x 44) bs))

-- the first field stands before the first comma, and the others past it
first_onto : (b : ℕ) (parts : List Bytes) → get_or (onto b parts) 0 [] ≡ b ∷ get_or parts 0 []
first_onto b [] = refl
first_onto b (part ∷ parts) = refl

later-onto : (b k : ℕ) (parts : List Bytes) → get_or (onto b parts) (suc k) [] ≡ get_or parts (suc k) []
later-onto b k [] = refl
later-onto b k (part ∷ parts) = refl

pub field_first : (bs : Bytes) → get_or (fields bs) 0 [] ≡ upto comma bs
field_first [] = refl
field_first (b ∷ bs) =
    ⊎_elim
    (λ (e : eqb b 44 ≡ true). ap (λ ps. get_or ps 0 []) (parted_mark 44 b bs ([] ∷ []) e) ∙ sym (upto_mark 44 b bs e))
    (λ (e : eqb b 44 ≡ false). ap (λ ps. get_or ps 0 []) (parted_other 44 b bs ([] ∷ []) e) ∙ first_onto b (fields bs) ∙ ap (λ t. b ∷ t) (field_first bs) ∙ sym (upto_other 44 b bs e))
    (cases_Bool (eqb b 44))

no_field : (k : ℕ) → get_or {A = Bytes} ([] ∷ []) (suc k) [] ≡ get_or {A = Bytes} ([] ∷ []) k []
no_field zero = refl
no_field (suc k) = refl

pub field_later : (bs : Bytes) (k : ℕ) → get_or (fields bs) (suc k) [] ≡ get_or (fields (past comma bs)) k []
field_later [] k = no_field k
field_later (b ∷ bs) k =
    ⊎_elim
    (λ (e : eqb b 44 ≡ true). ap (λ ps. get_or ps (suc k) []) (parted_mark 44 b bs ([] ∷ []) e) ∙ ap (λ t. get_or (fields t) k []) (sym (past_mark 44 b bs e)))
    (λ (e : eqb b 44 ≡ false). ap (λ ps. get_or ps (suc k) []) (parted_other 44 b bs ([] ∷ []) e) ∙ later-onto b k (fields bs) ∙ field_later bs k ∙ ap (λ t. get_or (fields t) k []) (sym (past_other 44 b bs e)))
    (cases_Bool (eqb b 44))

pub field_second : (bs : Bytes) → get_or (fields bs) 1 [] ≡ upto comma (past comma bs)
field_second bs = field_later bs 0 ∙ field_first (past comma bs)

pub field_third : (bs : Bytes) → get_or (fields bs) 2 [] ≡ upto comma (past comma (past comma bs))
field_third bs = field_later bs 1 ∙ field_second (past comma bs)

pub field_fourth : (bs : Bytes) → get_or (fields bs) 3 [] ≡ upto comma (past comma (past comma (past comma bs)))
field_fourth bs = field_later bs 2 ∙ field_third (past comma bs)

-- the first part and what stands past it, by the place of the first mark
module _ (mark : ℕ) where
  abbrev pub mark_place : Bytes → ℕ
  mark_place bs = position_or_len (λ b. eqb b mark) bs

  pub take-mark_place : (bs : Bytes) → take (mark_place bs) bs ≡ upto mark bs
  take-mark_place [] = refl
  take-mark_place (b ∷ bs) = go (eqb b mark) (take-mark_place bs) where
    go : (v : Bool) → take (mark_place bs) bs ≡ upto mark bs → take (cond (not v) (1 + mark_place bs) 0) (b ∷ bs) ≡ cond v [] (b ∷ upto mark bs)
    go true e = refl
    go false e = let n : 1 + mark_place bs ≡ suc (mark_place bs) = omega arith in ap (λ k. take k (b ∷ bs)) n ∙ ap (λ t. b ∷ t) e

  pub drop-mark_place : (bs : Bytes) → drop (mark_place bs + 1) bs ≡ past mark bs
  drop-mark_place [] = refl
  drop-mark_place (b ∷ bs) = go (eqb b mark) (drop-mark_place bs) where
    go : (v : Bool) → drop (mark_place bs + 1) bs ≡ past mark bs → drop (cond (not v) (1 + mark_place bs) 0 + 1) (b ∷ bs) ≡ cond v bs (past mark bs)
    go true e = refl
    go false e = let n : 1 + mark_place bs + 1 ≡ suc (mark_place bs + 1) = omega arith in ap (λ k. drop k (b ∷ bs)) n ∙ e

  -- that place, where a search for the mark gives none at the end
  pub place_found : (bs : Bytes) (found : Option ℕ) → found ≡ cond (ltb (mark_place bs) (length bs)) (Some (mark_place bs)) None → unwrap_or found (length bs) ≡ mark_place bs
  place_found bs found e =
      let end : mark_place bs ≤ length bs = prefix_len-le-length (λ b. not (eqb b mark)) bs in
      ap (λ o. unwrap_or o (length bs)) e
      ∙ cond_both (ltb (mark_place bs) (length bs)) (Some (mark_place bs)) None (λ o. unwrap_or o (length bs) ≡ mark_place bs)
      (λ _. refl)
      (λ past. omega (arith, ltb-false (mark_place bs) (length bs) past))

  -- that place, where the search gives one, and the end, where it gives none
  pub place_some : (bs : Bytes) (found : Option ℕ) (stop : ℕ) → found ≡ cond (ltb (mark_place bs) (length bs)) (Some (mark_place bs)) None → found ≡ Some stop → stop ≡ mark_place bs
  place_some bs found stop e is = sym (ap (λ o. unwrap_or o (length bs)) is) ∙ place_found bs found e

  pub place_none : (bs : Bytes) (found : Option ℕ) → found ≡ cond (ltb (mark_place bs) (length bs)) (Some (mark_place bs)) None → found ≡ None → length bs ≡ mark_place bs
  place_none bs found e is = sym (ap (λ o. unwrap_or o (length bs)) is) ∙ place_found bs found e

-- the lines are as many as the parts that the library's `split_inclusive` gives
past_end : (bs : Bytes) (d : ℕ) → get_or bs (length bs) d ≡ d
past_end [] d = refl
past_end (b ∷ bs) d = past_end bs d

first_place : (bs : Bytes) (i : ℕ) → IsFirstMatchOrLen (λ b. eqb b 10) bs i → mark_place 10 bs ≡ i
first_place bs i first =
    let within : i ≤ length bs =
    ⊎_elim
    (λ (past : length bs < i).
    let z : ◌≡◌ {A = ℕ} 1 0 = ap (λ (t : Bool). cond {A = ℕ} t 1 0) (sym (ap (λ b. eqb b 10) (past_end bs 10)) ∙ first.0 (length bs) 10 (omega arith) past) in
    absurd (omega arith))
    (λ (k : i ≤ length bs). k)
    (cases_lt (length bs) i) in
    position_or_len_is (λ b. eqb b 10) bs i 0 within (λ k l. first.0 k 0 (omega arith) l) (λ l. first.1 l 0)

-- what is left behind a part that ends with its mark, or with the text
left_behind : (bs part left : Bytes) (i : ℕ) → bs ≡ part ++ left → length part ≡ min (i + 1) (length bs) → IsFirstMatchOrLen (λ b. eqb b 10) bs i → left ≡ other_lines bs
left_behind bs part left i e n first =
    let at : ℕ = min (i + 1) (length bs) in
    let end : drop at bs ≡ drop (i + 1) bs =
    ⊎_elim
    (λ (k : i + 1 < length bs). let z : at ≡ i + 1 = omega arith in ap (λ m. drop m bs) z)
    (λ (k : length bs ≤ i + 1). drop_all at bs (omega arith) ∙ sym (drop_all (i + 1) bs k))
    (cases_lt (i + 1) (length bs)) in
    sym (drop-append_seam part left) ∙ ap (drop (length part)) (sym e) ∙ ap (λ m. drop m bs) n ∙ end
    ∙ ap (λ m. drop (m + 1) bs) (sym (first_place bs i first)) ∙ drop-mark_place 10 bs

-- one 0 for each line
abbrev pub marks : Bytes → List ℕ
marks bs = map {B = ℕ} (λ line. 0) (lines bs)

pub marks_behind : (bs part left : Bytes) (i : ℕ) → bs ≡ part ++ left → length part ≡ min (i + 1) (length bs) → IsFirstMatchOrLen (λ b. eqb b 10) bs i → 0 < length bs → marks bs ≡ 0 ∷ marks left
marks_behind bs part left i e n first some = ap (map {B = ℕ} (λ line. 0)) (lines-front bs some) ∙ ap (λ rest. 0 ∷ marks rest) (sym (left_behind bs part left i e n first))

module _ {F : Type 0} (g : Mut F (Bor ℕ × Unit {0}) Bool) where
  -- what `split_inclusive` gives
  abbrev gives : SplitInclusive ℕ F → Option (Bor Bytes) → SplitInclusive ℕ F → Type 0
  gives s r t =
      MatchOption r ((length (split_inclusive_rest s) ≡ 0) × (t ≡ s))
      (λ part. (split_inclusive_rest s ≡ part.now ++ split_inclusive_rest t)
      × ((i : ℕ) × (length part.now ≡ min (i + 1) (length (split_inclusive_rest s)))
      × ((p : ℕ → Bool) → ComputesKey g p (split_inclusive_callee s) → ComputesKey g p (split_inclusive_callee t) × IsFirstMatchOrLen p (split_inclusive_rest s) i))
      × (0 < length (split_inclusive_rest s)))

  pub yields_marks : (s : SplitInclusive ℕ F) (f : F) → split_inclusive_callee s ≡ f → ((x : ℕ) (b : Bool) (q : F) → CalledAt g f x b q → (q ≡ f) × (b ≡ eqb x 10)) → YieldsList gives (λ part. 0) s (marks (split_inclusive_rest s))
  yields_marks s f closure tests =
      YieldsList-from_shown_while gives (λ part. 0) (λ t. marks (split_inclusive_rest t)) (λ t. ComputesKey g (λ b. eqb b 10) (split_inclusive_callee t))
      (λ t u h k. ap (λ bs. length (marks bs)) (nil_from_length (split_inclusive_rest t) k.0))
      (λ t part u h k.
      let first = k.1.2 (λ b. eqb b 10) h in
      (first.0, marks_behind (split_inclusive_rest t) part.now (split_inclusive_rest u) k.1.0 k.0 k.1.1 first.1 k.2))
      s
      (subst (ComputesKey g (λ b. eqb b 10)) (sym closure)
      (always_returns_same g (λ a r. r ≡ eqb a.0.now 10) f (λ a r q k. let m = tests a.0.now r q (record { shown = a.0; shows = refl; called = k }) in (m.1, m.0))))
