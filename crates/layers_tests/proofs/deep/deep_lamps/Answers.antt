use Rattle.std.proofs.Common.{ℕ, reverse, refl, subst, lit<}
use Rattle.monoid.specs.Meaning.{Meaning}
use Rattle.monoid.specs.Words.{Recognises}
use Rattle.table.specs.declared.data.TableData.{TableData}
use Rattle.table.specs.Meanings.{table_meaning}
use Rattle.table.specs.Languages.{lit_product, Multiplies}
use Rattle.before_after.specs.BeforeAfter.{before_and_after}
use Rattle.layers.specs.Not.{not_meaning}
use Rattle.layers.specs.All.{all_meaning}
use Rattle.layers.specs.Reversed.{reversed_meaning}
use Rattle.layers.specs.SideBySide.{side_by_side}
use Rattle.layers_tests.specs.First.{first_meaning, first_small}
use Rattle.layers_tests.specs.Deep.{begun_data, Between}
use Rattle.layers.specs.declared.layer.Layer.{Layer}
use Rattle.layers.specs.declared.reversed.Mirror.{Mirror}
use Rattle.layers.specs.declared.side_by_side.SideBySide.{SideBySide}
use Rattle.memo.specs.declared.memo.Memo.{Memo}
use Rattle.table.specs.declared.table.Table.{Table}
use Rattle.before_after.specs.declared.recogniser.BeforeAfter.{BeforeAfter}
use Rattle.before_after.specs.declared.split.Split.{Split}
use Rattle.layers_tests.specs.declared.first.First.{First}
use Rattle.layers_tests.specs.declared.first.Opening.{Opening}
use Rattle.layers_tests.proofs.Pile.{begun_passes, turned, passed_on, not_both_lem}
use Rattle.layers_tests.proofs.deep.deep_lamps.Goals as goal

-- what the two sides mean together
abbrev beside_of : SideBySide (Layer (Memo Table) Mirror) (BeforeAfter First First) → Meaning (ℕ × Split Opening Opening)
beside_of s = side_by_side (reversed_meaning (table_meaning s.left.below.below)) (before_and_after first_meaning first_small first_meaning first_small s.right.marks)

pub returns : goal.returns
returns c =
    let t = table_meaning c.new-table.result in
    let u = table_meaning c.new-kept.result.below in
    let v = reversed_meaning (table_meaning c.new-backwards.result.below.below) in
    let between = before_and_after first_meaning first_small first_meaning first_small c.new-between.result.marks in
    let multiplies = subst (λ (d : TableData). Multiplies d t) c.begun_data.ensures.value c.new-table.ensures.multiplies in
    let kept = c.new-kept.ensures.order tt in
    let turned_order = c.new-backwards.ensures.order kept in
    let begun = turned t u v (lit_product begun_data) (multiplies.taken begun_passes) c.new-kept.ensures.languages (c.new-backwards.ensures.languages (c.new-kept.ensures.laws tt)) in
    let parted : Recognises between 0 Between = c.new-between.ensures.language tt tt in
    let beside = c.new-beside.ensures.languages in
    let both = beside_of c.new-beside.result in
    let all = all_meaning (beside_of c.new-all.result.below) in
    let top = not_meaning (all_meaning (beside_of c.new-pile.result.below.below)) in
    let left = passed_on both 0 v (λ w. lit_product begun_data (reverse w)) (beside.left 0 (lit< tt)) begun in
    let right = passed_on both 1 between Between (beside.right 0 (lit< tt)) parted in
    let says = not_both_lem both all top (λ w. lit_product begun_data (reverse w)) Between refl refl left right c.new-all.ensures.languages c.new-pile.ensures.languages in
    let order = c.new-pile.ensures.order (c.new-all.ensures.order (c.new-beside.ensures.order turned_order (c.new-between.ensures.order tt tt))) in
    let verdicts = c.word_lamps.ensures.verdicts order in
    let w = c.args.word.now in
    record {
      only = λ e. says.only w (verdicts.only 0 e);
      every = λ none. verdicts.every 0 (says.every w none);
    }
