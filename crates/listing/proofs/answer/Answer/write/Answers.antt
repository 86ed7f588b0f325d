use Rattle.std.proofs.Common.{◌≡◌, ℕ, ◌+◌, ◌-◌, true, false, length, Some, None, sym, ap, ◌∙◌}
use Rattle.std.proofs.lemmas.Bool.{cond-true, cond-false, leb-false}
use Rattle.script.specs.Parts.{Bytes}
use Rattle.listing.specs.Answers.{bytes_of}
use Rattle.listing.specs.Outputs.{overwrite, has_room}
use Rattle.listing.proofs.Unbroken.{one_line}
use Rattle.listing.proofs.answer.Answer.write.Goals as goal

pub returns-then-not-has_room : goal.returns-then-not-has_room
returns-then-not-has_room c =
    let out : Bytes = c.args.out.now in
    let at : ℕ = c.args.at in
    let bytes : Bytes = bytes_of c.args.self in
    let full : has_room (length out - at) ≡ false = ap has_room (sym c.saturating_sub.ensures) ∙ sym c.if-not-has_room.ensures.value in
    record {
      value = sym (cond-false (has_room (length out - at)) (Some (at + length bytes)) None full);
      after = sym (cond-false (has_room (length out - at)) (overwrite out at bytes) out full);
      bound = leb-false 96 (length out - at) full;
      items = one_line c.args.self;
      tells = tt;
    }

pub returns : goal.returns
returns c =
    let out : Bytes = c.args.out.now in
    let at : ℕ = c.args.at in
    let bytes : Bytes = bytes_of c.args.self in
    let free : has_room (length out - at) ≡ true = ap has_room (sym c.saturating_sub.ensures) ∙ sym c.if-not-has_room.ensures.value in
    record {
      value = ap Some c.write_line.ensures.value ∙ sym (cond-true (has_room (length out - at)) (Some (at + length bytes)) None free);
      after = c.write_line.ensures.after ∙ sym (cond-true (has_room (length out - at)) (overwrite out at bytes) out free);
      bound = c.write_line.ensures.bound;
      items = one_line c.args.self;
      tells = c.write_line.ensures.tells;
    }
