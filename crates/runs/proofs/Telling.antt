-- What a run of a script tells in the end.
use Rattle.std.proofs.Common.{◌≡◌, ℕ, ◌+◌, ◌-◌, ◌<◌, min, Bool, true, false, cond, List, [], ◌∷◌, ◌++◌, length, take, drop, sym, refl, ap, ◌∙◌, subst}
use Rattle.std.proofs.Math.Seq.{take-append_seam}
use Rattle.std.proofs.lemmas.Bool.{cond-false}
use Rattle.std.proofs.lemmas.List.{append-nil, nil_from_length}
use Rattle.std.specs.List.{flat_map}
use Rattle.monoid.specs.Meaning.{Meaning}
use Rattle.monoid.specs.Words.{Word}
use Rattle.plain.specs.Plain.{PlainBook}
use Rattle.records.specs.declared.records.Records.{Records}
use Rattle.cells.specs.declared.cell.Cell.{Cell}
use Rattle.calls.specs.Runs.{WorkedThrough}
use Rattle.script.specs.Lines.{lines, first_line, other_lines}
use Rattle.script.specs.Parts.{Bytes}
use Rattle.script.specs.Said.{said}
use Rattle.script.proofs.Parting.{lines-front}
use Rattle.listing.specs.Answers.{ended}
use Rattle.listing.specs.Endings.{ending_number}
use Rattle.listing.specs.Listings.{Run, lamps_by, answered, answers, answers_to, book_after, book_through, fitting, ending, listing, is_workable, run, numbers}
use Rattle.listing.specs.Ends.{Ends}
use Rattle.listing.specs.Outputs.{overwrite, has_room}
use Rattle.listing.proofs.Ends.{ends}
use Rattle.listing.specs.declared.ending.Ending.TheVariants.{OutputFull, ScriptTooLong}
use Rattle.runs.specs.Scripted.{calls_said}
use Rattle.runs.specs.Told.{AllAgree, Told, texts_due}
use Rattle.runs.proofs.Agreeing.{many_agree, as_long, all_same}
use Rattle.runs.proofs.Turning.{Going}

module _ (room : ℕ) (all : List Bytes) where
  -- a script that is too long
  abbrev too_long : Run
  too_long = record { ending = ScriptTooLong; lines = 0; bytes = [] }

  -- the bytes of a run are its texts, each ended
  bytes_by : (workable : Bool) → flat_map ended (cond workable (fitting room all) []) ≡ (cond workable (listing room all) too_long).bytes
  bytes_by true = refl
  bytes_by false = refl

  -- the numbers of a listing whose texts are as many and as long
  numbers_by : (number n w : ℕ) (done : List Bytes) → number ≡ ending_number (ending room all) → n ≡ length done → w ≡ length (flat_map ended done) → fitting room all ≡ done
      → ◌≡◌ {A = ℕ × ℕ × ℕ} (number, n, w) (numbers (listing room all))
  numbers_by number n w done last many long is =
      let first : ◌≡◌ {A = ℕ × ℕ × ℕ} (number, n, w) (ending_number (ending room all), n, w) = ap (λ (k : ℕ). (k, n, w)) last in
      let second : ◌≡◌ {A = ℕ × ℕ × ℕ} (ending_number (ending room all), n, w) (ending_number (ending room all), length done, w) = ap (λ (k : ℕ). (ending_number (ending room all), k, w)) many in
      let third : ◌≡◌ {A = ℕ × ℕ × ℕ} (ending_number (ending room all), length done, w) (ending_number (ending room all), length done, length (flat_map ended done)) = ap (λ (k : ℕ). (ending_number (ending room all), length done, k)) long in
      first ∙ second ∙ third ∙ ap (λ (ts : List Bytes). (ending_number (ending room all), length ts, length (flat_map ended ts))) (sym is)

module _ {S E : Type 0} (meaning : S → Meaning E) (orderly : S → Type 0) (tally : S → ℕ) (script : Bytes) (x : List (Cell E)) (s : S) (out : Bytes) where
  abbrev room : ℕ
  room = length out

  abbrev capacity : ℕ
  capacity = min (length x) 4096

  abbrev lamps : Word → List Bool
  lamps = lamps_by (meaning s)

  abbrev all : List Bytes
  all = answers_to lamps capacity script

  -- under a lawful recogniser the bytes written are those of the listing
  pub told_bytes : (y : List (Cell E)) (t : S) (now : Bytes) (answer : ℕ × ℕ × ℕ) → Told meaning orderly tally script x y s t out now answer → orderly s → now ≡ overwrite out 0 (run lamps capacity room script).bytes
  told_bytes y t now answer told order =
      told.written
      ∙ ap (λ ts. overwrite out 0 (flat_map ended ts)) (all_same told.texts (texts_due lamps capacity room script) (told.agree true (λ law. order)))
      ∙ ap (overwrite out 0) (bytes_by room all (is_workable (length script)))

  -- the three numbers mean what they say
  pub told_ends : (y : List (Cell E)) (t : S) (now : Bytes) (answer : ℕ × ℕ × ℕ) → Told meaning orderly tally script x y s t out now answer → Ends lamps capacity room script answer
  told_ends y t now answer told = ends lamps capacity room script answer told.numbers_are

  -- a script that is too long is not worked
  pub told_too_long : is_workable (length script) ≡ false → Told meaning orderly tally script x x s s out out (38, 0, 0)
  told_too_long long = record {
    numbers_are = ap (λ (b : Bool). numbers (cond b (listing room all) (too_long room all))) (sym long);
    texts = [];
    written = refl;
    agree = λ lawful ordered. subst (λ (b : Bool). AllAgree lawful [] (cond b (fitting room all) [])) (sym long) tt;
    ran = λ short. absurd (let e : true ≡ false = sym short ∙ long in cc);
    unworked = λ e. (refl, refl);
    outside = refl;
    same = refl;
    order = λ o. o;
  }

  module _ (n w : ℕ) (b : Records) (y : List (Cell E)) (t : S) (rest now : Bytes) (going : Going meaning orderly tally script x s out n w b y t rest now) (short : is_workable (length script) ≡ true) where
    abbrev plain : PlainBook
    plain = book_through capacity 0 [] going.worked

    abbrev later : List Bytes
    later = answers lamps capacity n plain (lines rest)

    -- where no more is written, the run ends
    told_by : (number : ℕ) → fitting (room - w) later ≡ [] → number ≡ ending_number (ending (room - w) later) → Told meaning orderly tally script x y s t out now (number, n, w)
    told_by number none last =
        let done_is : fitting room all ≡ going.done = going.fitting_is ∙ ap (λ ts. going.done ++ ts) none ∙ append-nil going.done in
        let agree_now : AllAgree false going.texts going.done = going.agree false (λ law. absurd cc) in
        let worked_is : take n (lines script) ≡ going.worked =
        ap (λ k. take k (lines script)) (sym going.count) ∙ ap (take (length going.worked)) (sym going.lines_are) ∙ take-append_seam going.worked (lines rest) in
        record {
          numbers_are =
              numbers_by room all number n w going.done (last ∙ ap ending_number (sym going.ending_is)) (sym going.many ∙ many_agree false going.texts going.done agree_now) (going.place ∙ as_long false going.texts going.done agree_now) done_is
              ∙ ap (λ (b : Bool). numbers (cond b (listing room all) (too_long room all))) (sym short);
          texts = going.texts;
          written = going.written;
          agree = λ lawful ordered.
              subst (λ (b : Bool). AllAgree lawful going.texts (cond b (fitting room all) [])) (sym short)
              (subst (λ (ts : List Bytes). AllAgree lawful going.texts ts) (sym done_is) (going.agree lawful ordered));
          ran = λ workable. (b, going.outcomes, subst (λ (ls : List Bytes). WorkedThrough meaning orderly tally x y s t b (calls_said 0 ls) going.outcomes) (sym worked_is) going.made);
          unworked = λ long. absurd (let e : true ≡ false = sym short ∙ long in cc);
          outside = subst (λ (k : ℕ). drop k y ≡ drop k x) going.made.capacity going.made.outside;
          same = going.made.same;
          order = going.made.order;
        }

    -- no line is left
    pub told_complete : length rest ≡ 0 → Told meaning orderly tally script x y s t out now (0, n, w)
    told_complete end =
        let none : rest ≡ [] = nil_from_length rest end in
        told_by 0 (ap (λ r. fitting (room - w) (answers lamps capacity n plain (lines r))) none)
        (sym (ap (λ r. ending_number (ending (room - w) (answers lamps capacity n plain (lines r)))) none))

    -- a line is left, and no room
    pub told_full : 0 < length rest → has_room (room - w) ≡ false → Told meaning orderly tally script x y s t out now (37, n, w)
    told_full some full =
        let line : Bytes = first_line rest in
        let due : Bytes = answered lamps capacity (n + 1) plain (said (n + 1) line) in
        let past : List Bytes = answers lamps capacity (n + 1) (book_after capacity plain (said (n + 1) line)) (lines (other_lines rest)) in
        let front = lines-front rest some in
        told_by 37
        (ap (λ ls. fitting (room - w) (answers lamps capacity n plain ls)) front ∙ cond-false (has_room (room - w)) (due ∷ fitting ((room - w) - length (ended due)) past) [] full)
        (sym (ap (λ ls. ending_number (ending (room - w) (answers lamps capacity n plain ls))) front ∙ ap ending_number (cond-false (has_room (room - w)) (ending ((room - w) - length (ended due)) past) OutputFull full)))
