use Rattle.listing.proofs.Listing.{listed}
use Rattle.listing.proofs.due.answers_due.Goals as goal

pub returns : goal.returns
returns c = record { value = c.count_lines.ensures.value; listed = listed c.args.script.now }
