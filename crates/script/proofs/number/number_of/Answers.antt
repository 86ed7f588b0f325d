use Rattle.std.proofs.Common.{◌≡◌, ℕ, ◌+◌, ◌-◌, ◌*◌, get_or, drop, None, sym, ap, ◌∙◌, arith}
use Rattle.std.proofs.lemmas.List.{at_drop_more, at_drop_all}
use Rattle.std.proofs.lemmas.Bool.{cond-true, cond-false}
use Rattle.script.specs.Numbers.{is_digit, read_on}
use Rattle.script.proofs.Digits.{sized, grows, digit_small}
use Rattle.script.proofs.number.number_of.Goals as goal

pub returns-then-not-is_ascii_digit : goal.returns-then-not-is_ascii_digit
returns-then-not-is_ascii_digit c =
    let text = c.args.text.now in
    let i : ℕ = c.loop-byte.byte-index in
    let n : ℕ = c.loop-byte.number in
    let b : ℕ = get_or text i 0 in
    record {
      value = sym (sized text (sym c.if-not-is_numeral_length.ensures.value) ∙ c.loop-byte.invariant.1 ∙ at_drop_more (read_on n) text i 0 c.loop-byte-test.true
          ∙ cond-false (is_digit b) (read_on (10 * n + (b - 48)) (drop (i + 1) text)) None (sym c.if-not-is_ascii_digit.ensures.value));
    }

pub loop-byte-preserved : goal.loop-byte-preserved
loop-byte-preserved c =
    let text = c.args.text.now in
    let i : ℕ = c.loop-byte.byte-index in
    let n : ℕ = c.loop-byte.number in
    let b : ℕ = get_or text i 0 in
    let digit = sym c.if-not-is_ascii_digit.ensures.value in
    let is : b - 48 ≡ c.from.result = cc in (
      omega (arith, is, grows n i (b - 48) c.loop-byte.invariant.0 (digit_small b digit)),
      c.loop-byte.invariant.1 ∙ at_drop_more (read_on n) text i 0 c.loop-byte-test.true
          ∙ cond-true (is_digit b) (read_on (10 * n + (b - 48)) (drop (i + 1) text)) None digit
          ∙ ap (λ d. read_on (10 * n + d) (drop (i + 1) text)) is,
    )

pub returns : goal.returns
returns c =
    let text = c.args.text.now in
    record { value = sym (sized text (sym c.if-not-is_numeral_length.ensures.value) ∙ c.loop-byte.invariant.1 ∙ at_drop_all (read_on c.loop-byte.number) text c.loop-byte.byte-index c.loop-byte-test.false) }
