use Rattle.std.proofs.Common.{map, ap, ◌∙◌}
use Rattle.records.specs.Changes.{sheet_of}
use Rattle.records.proofs.Committing.{lawful-after, opened, copied, closed, moved}
use Rattle.records.proofs.records.Records.change.Goals as goal

pub append-requires : goal.append-requires
append-requires c =
    let b = c.args.self.now in
    let made = opened b c.args.root c.args.call c.in-Open.tag c.fresh.result c.in-Open.is c.fresh.ensures.value c.requires.accepted in
    record { room = made.room; ok = lawful-after b c.args.call c.args.root c.requires.accepted _ made.sheets }

pub append-requires-in-Copy : goal.append-requires-in-Copy
append-requires-in-Copy c =
    let b = c.args.self.now in
    let made = copied b c.args.root c.args.call c.in-Copy.tag c.in-Copy.new c.rows.result c.fresh-in-Copy.result c.in-Copy.is c.rows.ensures.value c.fresh-in-Copy.ensures.value c.requires.accepted in
    record { room = made.room; ok = lawful-after b c.args.call c.args.root c.requires.accepted _ made.sheets }

pub remove-requires : goal.remove-requires
remove-requires c = record { ok = lawful-after c.args.self.now c.args.call c.args.root c.requires.accepted _ (closed c.args.self.now c.args.root c.args.call c.in-Close.tag c.in-Close.is) }

pub alter-requires : goal.alter-requires
alter-requires c =
    let b = c.args.self.now in
    let rest = c.in-Rename in
    record { ok = lawful-after b c.args.call c.args.root c.requires.accepted _ (moved b c.args.root c.args.call rest.is) }

pub returns-in-Copy : goal.returns-in-Copy
returns-in-Copy c =
    let made = copied c.args.self.now c.args.root c.args.call c.in-Copy.tag c.in-Copy.new c.rows.result c.fresh-in-Copy.result c.in-Copy.is c.rows.ensures.value c.fresh-in-Copy.ensures.value c.requires.accepted in
    record { sheets = ap (map sheet_of) c.append-in-Copy.ensures.after ∙ made.sheets; capacity = c.append-in-Copy.ensures.capacity }

pub returns-in-Close : goal.returns-in-Close
returns-in-Close c = record {
  sheets = ap (map sheet_of) c.remove.ensures.after ∙ closed c.args.self.now c.args.root c.args.call c.in-Close.tag c.in-Close.is;
  capacity = c.remove.ensures.capacity;
}

pub returns-in-Rename : goal.returns-in-Rename
returns-in-Rename c =
    let rest = c.in-Rename in
    record {
      sheets = ap (map sheet_of) c.alter.ensures.after ∙ moved c.args.self.now c.args.root c.args.call rest.is;
      capacity = c.alter.ensures.capacity;
    }
