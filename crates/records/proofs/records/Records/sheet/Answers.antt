use Rattle.std.proofs.Common.{Some, sym, ap, ◌∙◌, arith}
use Rattle.records.specs.Views.{standing}
use Rattle.records.proofs.Finding.{place_found, found_at, found_nowhere}
use Rattle.records.proofs.Within.{standing-length, standing_at}
use Rattle.records.proofs.records.Records.sheet.Goals as goal

pub returns-in_err-at : goal.returns-in_err-at
returns-in_err-at c = record { value = c.from_residual.ensures ∙ sym (found_nowhere c.args.tag (standing c.args.self.now) (sym c.place.ensures.value ∙ c.in_err-at.was)) }

pub returns : goal.returns
returns c =
    let b = c.args.self.now in
    let at = c.in_ok-at.at in
    let is = sym c.place.ensures.value ∙ c.in_ok-at.was in
    let within = (place_found c.args.tag (standing b) at is).0 in
    let long = standing-length b in
    record { value = sym (found_at c.args.tag (standing b) at is ∙ ap Some (standing_at b at (omega arith))) }
