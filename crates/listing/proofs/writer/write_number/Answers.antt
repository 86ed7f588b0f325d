use Rattle.std.proofs.Common.{◌≡◌, ℕ, ◌+◌, ◌-◌, ◌^◌, ◌<◌, ◌≤◌, List, ◌++◌, length, take, drop, set, decimal, sym, ap, ◌∙◌, div-le_self, arith}
use Rattle.std.proofs.lemmas.List.{take_all, drop_all, take-append-drop}
use Rattle.listing.proofs.Decimals.{most_digits, partly, partly_more, split_digits}
use Rattle.listing.proofs.writer.write_number.Goals as goal

pub loop-left-init : goal.loop-left-init
loop-left-init c =
    let ds : List ℕ = decimal c.args.number in
    let size : ℕ = c.width-size.result in
    let long : size ≡ length ds = c.width-size.ensures.value in
    let out : List ℕ = c.args.out.now in (
      omega arith,
      omega arith,
      λ _. take_all size ds (omega arith),
      sym (take-append-drop (c.args.at + size) out) ∙ ap (λ t. take (c.args.at + size) out ++ (t ++ drop (c.args.at + size) out)) (sym (drop_all size ds (omega arith))),
    )

pub overflow_add-at : goal.overflow_add-at
overflow_add-at c = omega (arith, most_digits c.args.number c.ranges.number.fits, c.width-size.ensures.value, c.loop-left.invariant.0)

pub put-requires : goal.put-requires
put-requires c = omega (arith, most_digits c.args.number c.ranges.number.fits, c.width-size.ensures.value, c.loop-left.invariant.0)

pub loop-left-preserved : goal.loop-left-preserved
loop-left-preserved c =
    let ds : List ℕ = decimal c.args.number in
    let out : List ℕ = c.args.out.now in
    let at : ℕ = c.args.at in
    let left : ℕ = c.loop-left.left - 1 in
    let rest : ℕ = c.loop-left.rest in
    let size : ℕ = c.width-size.result in
    let long : size ≡ length ds = c.width-size.ensures.value in
    let most : length ds ≤ 10 = most_digits c.args.number c.ranges.number.fits in
    let up : c.loop-left.left ≡ left + 1 = omega arith in
    let low : left < length ds = omega arith in
    let fits : rest < 2 ^ 64 = omega (arith, c.ranges.number.fits) in
    let front : take (left + 1) ds ≡ decimal rest = ap (λ k. take k ds) (sym up) ∙ c.loop-left.invariant.2 c.loop-left-test.true in
    let parts = split_digits ds left rest low fits front in
    let was : c.loop-left.out ≡ partly out at ds (left + 1) =
    c.loop-left.invariant.3 ∙ ap (λ k. take (at + k) out ++ (drop k ds ++ drop (at + size) out)) up
    ∙ ap (λ k. take (at + (left + 1)) out ++ (drop (left + 1) ds ++ drop (at + k) out)) long in (
      omega arith,
      omega (arith, div-le_self rest 10),
      parts.1,
      c.put.ensures.after
          ∙ ap (λ l. set l (at + left) c.digit.result) was
          ∙ partly_more out ds at left c.digit.result low (omega arith) (parts.0 ∙ sym c.digit.ensures.value)
          ∙ ap (λ k. take (at + left) out ++ (drop left ds ++ drop (at + k) out)) (sym long),
    )

pub overflow_add-result : goal.overflow_add-result
overflow_add-result c = omega (arith, most_digits c.args.number c.ranges.number.fits, c.width-size.ensures.value)

pub returns : goal.returns
returns c =
    let ds : List ℕ = decimal c.args.number in
    let out : List ℕ = c.args.out.now in
    let at : ℕ = c.args.at in
    let size : ℕ = c.width-size.result in
    let long : size ≡ length ds = c.width-size.ensures.value in
    let zero : c.loop-left.left ≡ 0 = omega arith in
    let at0 : at + 0 ≡ at = omega arith in
    record {
      value = omega arith;
      after = c.loop-left.invariant.3 ∙ ap (λ k. take (at + k) out ++ (drop k ds ++ drop (at + size) out)) zero
          ∙ ap (λ k. take k out ++ (ds ++ drop (at + size) out)) at0
          ∙ ap (λ k. take at out ++ (ds ++ drop (at + k) out)) long;
      bound = omega (arith, most_digits c.args.number c.ranges.number.fits);
    }
