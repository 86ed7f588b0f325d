-- A run of a script, line by line.
use Rattle.std.proofs.Common.{◌≡◌, ℕ, ◌+◌, ◌-◌, ◌^◌, ◌<◌, ◌≤◌, min, Bool, true, false, List, [], ◌∷◌, ◌++◌, length, Result, sym, refl, ap, ◌∙◌, subst, arith}
use Rattle.std.proofs.lemmas.List.{append_assoc, length-append, length_push, flat_map_more}
use Rattle.std.specs.List.{flat_map}
use Rattle.monoid.specs.Meaning.{Meaning}
use Rattle.monoid.specs.Words.{Word}
use Rattle.plain.specs.Plain.{PlainBook}
use Rattle.plain.specs.declared.call.Call.{Call}
use Rattle.records.specs.declared.records.Records.{Records}
use Rattle.cells.specs.declared.cell.Cell.{Cell}
use Rattle.calls.specs.declared.outcome.Outcome.{Outcome}
use Rattle.calls.specs.Runs.{through, Created, WorkedThrough}
use Rattle.calls.proofs.Through.{worked_none}
use Rattle.script.specs.Lines.{lines, first_line, Passed}
use Rattle.script.specs.Parts.{Bytes}
use Rattle.script.specs.Said.{said}
use Rattle.script.specs.declared.fault.Fault.{Fault}
use Rattle.listing.specs.declared.answer.Answer.{Answer}
use Rattle.listing.specs.Answers.{ended, bytes_of}
use Rattle.listing.specs.Listings.{lamps_by, answered, answers, answers_to, book_after, book_through, fitting, ending}
use Rattle.listing.specs.Outputs.{overwrite, has_room}
use Rattle.listing.proofs.Writing.{then_write}
use Rattle.runs.specs.Scripted.{before_all, calls_said}
use Rattle.runs.specs.Told.{Agree, AllAgree}
use Rattle.runs.proofs.Agreeing.{agree_length, all_agree_more}
use Rattle.runs.proofs.Keeping.{Kept}
use Rattle.runs.proofs.Listings.{through-said, calls_more, book_more, fitting_more, ending_more}

-- whether there is room past w, where the room left was asked for
pub room_left : (free : Bool) (left length_now room w : ℕ) → left ≡ length_now - w → length_now ≡ room → free ≡ has_room left → free ≡ has_room (room - w)
room_left free left length_now room w is long asked = asked ∙ ap has_room is ∙ ap (λ k. has_room (k - w)) long

-- an answer is written as one that is the same
pub written_as : (a answer : Answer) (out now : Bytes) (w w' : ℕ) → a ≡ answer → w' ≡ w + length (bytes_of a) → now ≡ overwrite out w (bytes_of a) → (w' ≡ w + length (bytes_of answer)) × (now ≡ overwrite out w (bytes_of answer))
written_as a answer out now w w' is at wrote = (at ∙ ap (λ (v : Answer). w + length (bytes_of v)) is, wrote ∙ ap (λ (v : Answer). overwrite out w (bytes_of v)) is)

-- after n lines, with w bytes written: the rest of the script, the book, its cells and recogniser, and the output
pub record Going {S E : Type 0} (meaning : S → Meaning E) (orderly : S → Type 0) (tally : S → ℕ) (script : Bytes) (x : List (Cell E)) (s : S) (out : Bytes) (n w : ℕ) (b : Records) (y : List (Cell E)) (t : S) (rest now : Bytes) : Type 0 where
  pub bound : n + length rest ≤ length script
  pub within : w ≤ length out
  -- the lines worked
  pub worked : List Bytes
  pub lines_are : worked ++ lines rest ≡ lines script
  pub count : length worked ≡ n
  -- the texts written, and what the plain book is to answer
  pub texts : List Bytes
  pub done : List Bytes
  pub place : w ≡ length (flat_map ended texts)
  pub written : now ≡ overwrite out 0 (flat_map ended texts)
  pub many : length texts ≡ n
  pub fitting_is : fitting (length out) (answers_to (lamps_by (meaning s)) (min (length x) 4096) script)
      ≡ done ++ fitting (length out - w) (answers (lamps_by (meaning s)) (min (length x) 4096) n (book_through (min (length x) 4096) 0 [] worked) (lines rest))
  pub ending_is : ending (length out) (answers_to (lamps_by (meaning s)) (min (length x) 4096) script)
      ≡ ending (length out - w) (answers (lamps_by (meaning s)) (min (length x) 4096) n (book_through (min (length x) 4096) 0 [] worked) (lines rest))
  pub agree : (lawful : Bool) → (lawful ≡ true → orderly s) → AllAgree lawful texts done
  -- the calls made
  pub outcomes : List Outcome
  pub made : WorkedThrough meaning orderly tally x y s t b (calls_said 0 worked) outcomes

module _ {S E : Type 0} (meaning : S → Meaning E) (orderly : S → Type 0) (tally : S → ℕ) (script : Bytes) (x : List (Cell E)) (s : S) (out : Bytes) where
  -- before the first line
  pub going_none : (b : Records) (y : List (Cell E)) → tally s < 2 ^ 64 → Created x b y → Going meaning orderly tally script x s out 0 0 b y s script out
  going_none b y fits created =
      let all : length out ≡ length out - 0 = omega arith in
      record {
        bound = omega arith;
        within = omega arith;
        worked = [];
        lines_are = refl;
        count = refl;
        texts = [];
        done = [];
        place = refl;
        written = refl;
        many = refl;
        fitting_is = ap (λ k. fitting k (answers_to (lamps_by (meaning s)) (min (length x) 4096) script)) all;
        ending_is = ap (λ k. ending k (answers_to (lamps_by (meaning s)) (min (length x) 4096) script)) all;
        agree = λ lawful ordered. tt;
        outcomes = [];
        made = worked_none meaning orderly tally x s y b fits created;
      }

  module _ (n w w' : ℕ) (b b' : Records) (y z : List (Cell E)) (t t' : S) (rest left now next : Bytes) (says : Result Call Fault) (text : Bytes) (going : Going meaning orderly tally script x s out n w b y t rest now) (kept : Kept meaning orderly tally b b' y z t t' says (n + 1) text) where
    abbrev room : ℕ
    room = length out

    abbrev capacity : ℕ
    capacity = min (length x) 4096

    abbrev lamps : Word → List Bool
    lamps = lamps_by (meaning s)

    abbrev plain : PlainBook
    plain = book_through capacity 0 [] going.worked

    abbrev calls : List Call
    calls = calls_said 0 going.worked

    -- the text written agrees with what the plain book is to answer
    text_agrees : (lawful : Bool) → (lawful ≡ true → orderly s) → Agree lawful text (answered lamps capacity (n + 1) plain says)
    text_agrees lawful ordered =
        subst (λ (p : PlainBook). Agree lawful text (answered lamps capacity (n + 1) p says)) (through-said capacity 0 [] going.worked)
        (subst (λ (k : ℕ). Agree lawful text (answered lamps k (n + 1) (through k [] calls) says)) going.made.capacity
        (kept.agrees x s calls going.outcomes going.made lawful ordered))

    -- the calls made so far, and that of the line
    made_on : (outcomes : List Outcome) × WorkedThrough meaning orderly tally x z s t' b' (calls ++ before_all says []) outcomes
    made_on = kept.goes x s calls going.outcomes going.made

    module _ (some : 0 < length rest) (passed : Passed rest left) (says_is : says ≡ said (n + 1) (first_line rest)) where
      abbrev line : Bytes
      line = first_line rest

      -- what the plain book is to answer to the line
      abbrev due : Bytes
      due = answered lamps capacity (n + 1) plain (said (n + 1) line)

      -- what it is to answer to the lines past it
      abbrev later : PlainBook → List Bytes
      later book = answers lamps capacity (n + 1) book (lines left)

      -- the text agrees with that
      due_agrees : (lawful : Bool) → (lawful ≡ true → orderly s) → Agree lawful text due
      due_agrees lawful ordered = subst (λ (r : Result Call Fault). Agree lawful text (answered lamps capacity (n + 1) plain r)) says_is (text_agrees lawful ordered)

      -- so it is as long, whatever the recogniser is
      due_long : length (ended text) ≡ length (ended due)
      due_long = agree_length false text due (due_agrees false (λ law. absurd cc))

      -- the line's number is one more than the lines before it
      number_is : n + 1 ≡ 0 + (length going.worked + 1)
      number_is = omega (arith, going.count)

      -- the plain book after the line
      book_is : book_through capacity 0 [] (going.worked ++ (line ∷ [])) ≡ book_after capacity plain (said (n + 1) line)
      book_is = book_more capacity 0 (n + 1) [] going.worked line number_is

      -- the calls that the worked lines say
      calls_are : calls ++ before_all says [] ≡ calls_said 0 (going.worked ++ (line ∷ []))
      calls_are = ap (λ (r : Result Call Fault). calls ++ before_all r []) says_is ∙ sym (calls_more 0 (n + 1) going.worked line number_is)

      -- one line more
      pub going_more : has_room (length out - w) ≡ true → w' ≡ w + length (ended text) → w' ≤ length out → next ≡ overwrite now w (ended text)
          → Going meaning orderly tally script x s out (n + 1) w' b' z t' left next
      going_more free at within wrote =
          let at_due : w' ≡ w + length (ended due) = omega (arith, due_long) in
          let front : w ≡ 0 + length (flat_map ended going.texts) = omega (arith, going.place) in
          let longer = flat_map_more ended [] going.texts text in
          record {
            bound = omega (arith, going.bound, passed.bound some);
            within = within;
            worked = going.worked ++ (line ∷ []);
            lines_are = append_assoc going.worked (line ∷ []) (lines left) ∙ ap (λ ls. going.worked ++ ls) (sym (passed.items some)) ∙ going.lines_are;
            count = length_push going.worked line ∙ ap (λ k. k + 1) going.count;
            texts = going.texts ++ (text ∷ []);
            done = going.done ++ (due ∷ []);
            place = omega (arith, going.place, ap length longer, length-append (flat_map ended going.texts) (ended text));
            written = wrote ∙ then_write out now 0 w (flat_map ended going.texts) (ended text) (omega arith) going.written front ∙ ap (overwrite out 0) longer;
            many = length_push going.texts text ∙ ap (λ k. k + 1) going.many;
            fitting_is =
                going.fitting_is
                ∙ ap (λ ls. going.done ++ fitting (room - w) (answers lamps capacity n plain ls)) (passed.items some)
                ∙ ap (λ ts. going.done ++ ts) (fitting_more room w w' due (later (book_after capacity plain (said (n + 1) line))) free at_due)
                ∙ sym (append_assoc going.done (due ∷ []) (fitting (room - w') (later (book_after capacity plain (said (n + 1) line)))))
                ∙ ap (λ (p : PlainBook). (going.done ++ (due ∷ [])) ++ fitting (room - w') (later p)) (sym book_is);
            ending_is =
                going.ending_is
                ∙ ap (λ ls. ending (room - w) (answers lamps capacity n plain ls)) (passed.items some)
                ∙ ending_more room w w' due (later (book_after capacity plain (said (n + 1) line))) free at_due
                ∙ ap (λ (p : PlainBook). ending (room - w') (later p)) (sym book_is);
            agree = λ lawful ordered. all_agree_more lawful going.texts going.done text due (going.agree lawful ordered) (due_agrees lawful ordered);
            outcomes = made_on.0;
            made = subst (λ (cs : List Call). WorkedThrough meaning orderly tally x z s t' b' cs made_on.0) calls_are made_on.1;
          }
