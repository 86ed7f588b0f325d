use Rattle.std.proofs.Common.{◌≡◌, ℕ, ◌+◌, ◌<◌, min, List, [], ◌∷◌, map, length, get_or, set, sym, refl, ap, ◌∙◌, arith}
use lib.Seq.{paste}
use Rattle.std.proofs.lemmas.List.Edits.{paste_none, paste_more, paste_all}
use Rattle.listing.specs.Answers.{lamp_digit, lamp_text, lamps_shown}
use Rattle.listing.specs.Outputs.{overwrite}
use Rattle.listing.proofs.Texts.{lamp_text-some, lamp_text-none, length-shown, length_digits, digit_shown}
use Rattle.listing.proofs.writer.write_lamps.Goals as goal

pub loop-lamp-init : goal.loop-lamp-init
loop-lamp-init c = paste_none c.args.out.now c.args.at (map lamp_digit (lamps_shown c.args.lamps.now))

pub loop-lamp-preserved : goal.loop-lamp-preserved
loop-lamp-preserved c =
    let lamps = c.args.lamps.now in
    let out : List ℕ = c.args.out.now in
    let at : ℕ = c.args.at in
    let lamp : ℕ = c.loop-lamp.lamp in
    let digits : List ℕ = map lamp_digit (lamps_shown lamps) in
    let low : lamp < min lamps.width 16 = omega (arith, c.loop-lamp-test.true, c.min-width.ensures, c.width.ensures.value) in
    let long : length digits ≡ min lamps.width 16 = length_digits lamps in
    let is : c.lamp_digit.result ≡ get_or digits lamp 0 = c.lamp_digit.ensures.value ∙ ap lamp_digit c.lights.ensures.value ∙ sym (digit_shown lamps lamp low) in
    c.put.ensures.after
    ∙ ap (λ l. set l (at + lamp) c.lamp_digit.result) c.loop-lamp.invariant
    ∙ ap (λ b. set (paste out at digits lamp) (at + lamp) b) is
    ∙ paste_more out at digits lamp 0 (omega arith) (omega arith)

pub returns-then-width-eq0 : goal.returns-then-width-eq0
returns-then-width-eq0 c =
    let lamps = c.args.lamps.now in
    let text : lamp_text (lamps_shown lamps) ≡ 45 ∷ [] = lamp_text-none (lamps_shown lamps) (omega (arith, length-shown lamps, c.if-width-eq0.true, c.min-width.ensures, c.width.ensures.value)) in
    record {
      value = omega (arith, c.write_mark.ensures.value, ap length text);
      after = c.write_mark.ensures.after ∙ ap (overwrite c.args.out.now c.args.at) (sym text);
      bound = omega (arith, c.write_mark.ensures.value);
    }

pub returns : goal.returns
returns c =
    let lamps = c.args.lamps.now in
    let out : List ℕ = c.args.out.now in
    let at : ℕ = c.args.at in
    let digits : List ℕ = map lamp_digit (lamps_shown lamps) in
    let size : ℕ = c.min-width.result in
    let is : size ≡ min lamps.width 16 = omega (arith, c.min-width.ensures, c.width.ensures.value) in
    let text : lamp_text (lamps_shown lamps) ≡ digits = lamp_text-some (lamps_shown lamps) (omega (arith, length-shown lamps, c.if-width-eq0.false)) in
    let long : length digits ≡ size = length_digits lamps ∙ sym is in
    let all : c.loop-lamp.lamp ≡ length digits = omega (arith, c.loop-lamp.auto.lamp-end, c.loop-lamp-test.false) in
    record {
      value = omega (arith, ap length text);
      after = c.loop-lamp.invariant ∙ ap (paste out at digits) all ∙ paste_all out at digits (length digits) refl ∙ ap (overwrite out at) (sym text);
      bound = omega (arith, is);
    }
