use Rattle.std.proofs.Common.{rules}
use Rattle.changes.proofs.Naming.{changes_as, unasked_as}
use Rattle.changes.proofs.changing.change_cells.Goals as goal

pub returns-in-Copy-clause-changes : goal.returns-in-Copy-clause-changes
returns-in-Copy-clause-changes g c = unasked_as c.in-Copy.is (search rules)

pub returns-in-Close-clause-changes : goal.returns-in-Close-clause-changes
returns-in-Close-clause-changes g c = unasked_as c.in-Close.is (search rules)

pub returns-in-Insert-clause-changes : goal.returns-in-Insert-clause-changes
returns-in-Insert-clause-changes g c = changes_as c.in-Insert.is (c.insert_row.ensures.changes c.in-Insert.tag)

pub returns-in-Strike-clause-changes : goal.returns-in-Strike-clause-changes
returns-in-Strike-clause-changes g c = changes_as c.in-Strike.is (c.strike_row.ensures.changes c.in-Strike.tag)

pub returns-in-Replace-clause-changes : goal.returns-in-Replace-clause-changes
returns-in-Replace-clause-changes g c = changes_as c.in-Replace.is (c.replace_row.ensures.changes c.in-Replace.tag)

pub returns-in-Recalculate-clause-changes : goal.returns-in-Recalculate-clause-changes
returns-in-Recalculate-clause-changes g c = changes_as c.in-Recalculate.is (c.renew_rows.ensures.changes c.in-Recalculate.tag)
