use Rattle.std.proofs.Common.{◌≡◌, ℕ, ◌+◌, ◌≤◌, [], ◌∷◌, ◌++◌, length, decimal, ap, ◌∙◌, arith}
use Rattle.std.proofs.lemmas.List.{append_assoc}
use Rattle.script.specs.Parts.{Bytes}
use Rattle.listing.specs.Answers.{lamp_text, lamps_shown, bytes_of}
use Rattle.listing.specs.Outputs.{overwrite}
use Rattle.listing.proofs.Fields.{tells}
use Rattle.listing.proofs.Writing.{then_write, then_place}
use Rattle.listing.proofs.answer.write_line.Goals as goal

pub returns : goal.returns
returns c =
    let out : Bytes = c.args.out.now in
    let at : ℕ = c.args.at in
    let line : Bytes = decimal c.args.answer.line ++ (44 ∷ []) in
    let number : Bytes = decimal c.args.answer.number ++ (44 ∷ []) in
    let field : Bytes = decimal c.args.answer.field ++ (44 ∷ []) in
    let lamps : Bytes = lamp_text (lamps_shown c.args.answer.lamps) in
    let first = c.write_part-number in
    let second = c.write_part-field in
    let third = c.write_part-lamps in
    let fourth = c.write_lamps-end in
    let h : at ≤ length out = omega arith in
    let e2 = then_write out first.new.out at first.result line number h first.ensures.after first.ensures.value in
    let p2 = then_place at first.result second.result line number first.ensures.value second.ensures.value in
    let e3 = then_write out second.new.out at second.result (line ++ number) field h (second.ensures.after ∙ e2) p2 in
    let p3 = then_place at second.result third.result (line ++ number) field p2 third.ensures.value in
    let e4 = then_write out third.new.out at third.result ((line ++ number) ++ field) lamps h (third.ensures.after ∙ e3) p3 in
    let p4 = then_place at third.result fourth.result ((line ++ number) ++ field) lamps p3 fourth.ensures.value in
    let e5 = then_write out fourth.new.out at fourth.result (((line ++ number) ++ field) ++ lamps) (10 ∷ []) h (fourth.ensures.after ∙ e4) p4 in
    let p5 = then_place at fourth.result c.write_mark.result (((line ++ number) ++ field) ++ lamps) (10 ∷ []) p4 c.write_mark.ensures.value in
    let all : (((line ++ number) ++ field) ++ lamps) ++ (10 ∷ []) ≡ bytes_of c.args.answer = simp append_assoc in
    record {
      value = p5 ∙ ap (λ t. at + length t) all;
      after = c.write_mark.ensures.after ∙ e5 ∙ ap (overwrite out at) all;
      bound = omega (arith, first.ensures.bound, second.ensures.bound, third.ensures.bound, fourth.ensures.bound, c.write_mark.ensures.value);
      tells = tells c.args.answer (omega (arith, first.ensures.fits)) (omega (arith, second.ensures.fits)) (omega (arith, third.ensures.fits));
    }
