-- The listing of a script: of its first 16,385 bytes as of all, and put together from its parts.
use Rattle.std.proofs.Common.{◌≡◌, ℕ, ◌<◌, ◌≤◌, Bool, cond, arith, ⊎_elim, List, [], ◌++◌, Option, Some, None, IfSome, Result, Ok, Err, Vec, length, take, refl, sym, ap, ◌∙◌, subst}
use Rattle.std.proofs.lemmas.List.{take_all, length-take-le}
use Rattle.std.proofs.lemmas.Bool.{lt-leb}
use Rattle.std.proofs.lemmas.Bool.Decides.{leb_tells}
use Rattle.monoid.specs.Meaning.{Meaning}
use Rattle.monoid.specs.Words.{Word}
use Rattle.panels.specs.Panels.{panel_one, panel_two}
use Rattle.script.specs.Parts.{Bytes}
use Rattle.listing.specs.declared.ending.Ending.TheVariants.{ScriptTooLong}
use Rattle.listing.specs.Endings.{ending_number}
use Rattle.listing.specs.Listings.{Run, run, lamps_by, listing, answers_to}
use Rattle.watch.specs.Whole.{Tells, panel_line, end_line, told, panel_listing, whole_listing}
use Rattle.watch.specs.Streams.{FirstOf, ReadAtMost, ScriptRead}

module _ (lamps : Word → List Bool) (capacity room : ℕ) where
  unworked : Run
  unworked = record { ending = ScriptTooLong; lines = 0; bytes = [] }

  run_of_long : (script : Bytes) → 16384 < length script → run lamps capacity room script ≡ unworked
  unfolding unworked
  run_of_long script h = ap (λ b. cond b (listing room (answers_to lamps capacity script)) unworked) (lt-leb (length script) 16384 h)

  -- a script that is worked is read whole, and of one that is too long no byte counts
  run_of_first : (all : Bytes) → run lamps capacity room (take 16385 all) ≡ run lamps capacity room all
  run_of_first all =
      ⊎_elim (λ t. let h : length all ≤ 16385 = omega arith in ap (run lamps capacity room) (take_all 16385 all h))
      (λ t. let h : 16384 < length (take 16385 all) = subst (λ n. 16384 < n) (sym (length-take-le 16385 all (omega arith))) (omega arith) in run_of_long (take 16385 all) h ∙ sym (run_of_long all t.1)) (leb_tells (length all) 16384)

panel_of_first : {E : Type 0} (panel : ℕ) (m : Meaning E) (all : Bytes) → panel_listing panel m (take 16385 all) ≡ panel_listing panel m all
unfolding panel_listing
panel_of_first panel m all = ap (told panel) (run_of_first (lamps_by m) 512 65536 all)

pub listing_of_first : (all : Bytes) → whole_listing (take 16385 all) ≡ whole_listing all
unfolding whole_listing
listing_of_first all =
    ap (λ l. l ++ panel_listing 2 panel_two (take 16385 all)) (panel_of_first 1 panel_one all) ∙ ap (λ l. panel_listing 1 panel_one all ++ l) (panel_of_first 2 panel_two all)

listed : (old new : Option Bytes) (script : Bytes) → FirstOf old new 16385 script → IfSome old (λ all. whole_listing script ≡ whole_listing all)
listed None new script r = tt
listed (Some all) new script r = ap whole_listing r.first ∙ listing_of_first all

pub script_read : {A E : Type 0} (old new : Option Bytes) (r : Result (Vec ℕ A) E) → ReadAtMost old new 16385 r → ScriptRead old new r
script_read old new (Ok read) p = record { read = p; listed = listed old new read.items p }
script_read old new (Err e) p = p

-- the parts of a run's listing
pub told_parts : (panel : ℕ) (r : Run) (first middle answers last : Bytes) (number lines : ℕ) → Tells r number lines answers → first ≡ panel_line panel → middle ≡ answers → last ≡ end_line number lines
    → first ++ (middle ++ last) ≡ told panel r
unfolding told
told_parts panel r first middle answers last number lines t e f p =
    ap (λ l. l ++ (middle ++ last)) e ∙ ap (λ l. panel_line panel ++ (l ++ last)) (f ∙ t.bytes_are)
    ∙ ap (λ l. panel_line panel ++ (r.bytes ++ l)) (p ∙ ap (λ n. end_line n lines) t.number_is ∙ ap (λ n. end_line (ending_number r.ending) n) t.lines_are)

pub whole_parts : (script : Bytes) → panel_listing 1 panel_one script ++ panel_listing 2 panel_two script ≡ whole_listing script
unfolding whole_listing
whole_parts script = refl
