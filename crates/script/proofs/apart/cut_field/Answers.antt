use Rattle.std.proofs.Common.{◌+◌, length, take, drop, eqb, sym, ap, ◌∙◌, arith, rules, tests}
use Rattle.std.proofs.lemmas.Iterator.{YieldsList-from_slice}
use Rattle.std.proofs.lemmas.Iterator.Search.{position_from_yields_List}
use Rattle.std.proofs.lemmas.List.{take_all, take_rest, drop_all}
use Rattle.script.proofs.Parting.{take-mark_place, drop-mark_place, place_some, place_none}
use Rattle.script.proofs.apart.cut_field.Goals as goal

pub returns-in-Some : goal.returns-in-Some
returns-in-Some c =
    let text = c.args.text.now in
    let found = position_from_yields_List (λ b. eqb b 44) _ _ c.position.result c.position.ensures.ran (YieldsList-from_slice text cc) (λ x b q k. search (rules, tests)) in
    let stop = place_some 44 text c.position.result c.in-Some.stop found c.in-Some.is in
    record {
      first = ap (λ n. take n text) stop ∙ take-mark_place 44 text;
      rest = take_rest text (c.in-Some.stop + 1) ∙ ap (λ n. drop (n + 1) text) stop ∙ drop-mark_place 44 text;
    }

pub returns-in-None : goal.returns-in-None
returns-in-None c =
    let text = c.args.text.now in
    let found = position_from_yields_List (λ b. eqb b 44) _ _ c.position.result c.position.ensures.ran (YieldsList-from_slice text cc) (λ x b q k. search (rules, tests)) in
    let stop = place_none 44 text c.position.result found c.in-None.is in
    record {
      first = sym (take_all (length text) text (omega arith)) ∙ ap (λ n. take n text) stop ∙ take-mark_place 44 text;
      rest = sym (drop_all (length text + 1) text (omega arith)) ∙ ap (λ n. drop (n + 1) text) stop ∙ drop-mark_place 44 text;
    }
