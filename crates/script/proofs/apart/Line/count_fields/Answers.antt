use Rattle.std.proofs.Common.{◌≡◌, ◌+◌, cond, eqb, length, sym, ap, ◌∙◌, arith, rules, tests}
use Rattle.std.proofs.lemmas.Iterator.{YieldsList-from_slice, YieldsList-from_map}
use Rattle.std.proofs.lemmas.Iterator.Consumers.{sum_by_from_yields_List, fits_by_from_yields_list}
use Rattle.std.proofs.lemmas.List.Splits.{length-slice_split}
use Rattle.std.proofs.lemmas.List.Sums.{count_by-le-length}
use Rattle.std.specs.List.{count_by}
use Rattle.script.proofs.Parting.{fields_split}
use Rattle.script.proofs.apart.Line.count_fields.Goals as goal

pub sum-commas-requires-clause-fits : goal.sum-commas-requires-clause-fits
sum-commas-requires-clause-fits c =
    let text = c.args.self.text.now in
    fits_by_from_yields_list (λ b. cond (eqb b 44) 1 0) text c.map.result _
    (YieldsList-from_map _ (λ b. cond (eqb b 44) 1 0) (YieldsList-from_slice text cc) c.map.ensures.closure (λ x r q k. search (rules, tests)))
    (omega (arith, count_by-le-length (λ b. eqb b 44) text, c.iter.ensures.bound))

pub overflow_add-result : goal.overflow_add-result
overflow_add-result c =
    let text = c.args.self.text.now in
    let commas : c.sum-commas.result ≡ count_by (λ b. eqb b 44) text = sum_by_from_yields_List (λ b. cond (eqb b 44) 1 0) text c.map.result c.sum-commas.result c.sum-commas.ensures.ran
    (YieldsList-from_map _ (λ b. cond (eqb b 44) 1 0) (YieldsList-from_slice text cc) c.map.ensures.closure (λ x r q k. search (rules, tests))) in
    omega (arith, commas, count_by-le-length (λ b. eqb b 44) text, c.iter.ensures.bound)

pub returns : goal.returns
returns c =
    let text = c.args.self.text.now in
    let commas : c.sum-commas.result ≡ count_by (λ b. eqb b 44) text = sum_by_from_yields_List (λ b. cond (eqb b 44) 1 0) text c.map.result c.sum-commas.result c.sum-commas.ensures.ran
    (YieldsList-from_map _ (λ b. cond (eqb b 44) 1 0) (YieldsList-from_slice text cc) c.map.ensures.closure (λ x r q k. search (rules, tests))) in
    record { value = ap (λ n. n + 1) commas ∙ sym (length-slice_split (λ b. eqb b 44) text) ∙ ap length (sym (fields_split text)) }
