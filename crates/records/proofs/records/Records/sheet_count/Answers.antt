use Rattle.std.proofs.Common.{sym, ◌∙◌}
use Rattle.std.proofs.lemmas.List.{length-map}
use Rattle.records.specs.Entries.{entry}
use Rattle.records.specs.Views.{standing}
use Rattle.records.proofs.Within.{standing-length}
use Rattle.records.proofs.records.Records.sheet_count.Goals as goal

pub returns : goal.returns
returns c =
    let b = c.args.self.now in
    record { value = sym (length-map (standing b) entry ∙ standing-length b) }
