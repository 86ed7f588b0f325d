use Rattle.std.proofs.Common.{◌%◌, cond, Some, sym, ap, ◌∙◌, subst}
use Rattle.counter.specs.declared.data.CounterData.{CounterData}
use Rattle.counter.specs.Languages.{counted_to, Counts}
use Rattle.counter.specs.Meanings.{counter_meaning, counter_from, counting, trivial}
use Rattle.panels.specs.Data.{page_data}
use Rattle.panels.specs.Sayings.{Pages}
use Rattle.panels.proofs.Accepting.{page_passes}
use Rattle.panels.proofs.Paging.{weight_is_length}
use Rattle.panels.proofs.Saying.{said}
use Rattle.panels.proofs.lamps.page.Goals as goal

pub returns : goal.returns
returns c =
    let m = counter_meaning c.new.result in
    let is = c.page_data.ensures.value in
    record {
      meaning = c.new.ensures.meaning ∙ ap counter_from is ∙ ap (λ b. cond b (counting 10 page_data.weights (Some 0)) trivial) page_passes;
      language = said m 0 (counted_to page_data) Pages ((subst (λ (d : CounterData). Counts d m) is c.new.ensures.counts).taken page_passes) (λ w. (λ h. sym (ap (λ n. n % 10) (weight_is_length w)) ∙ h, λ h. ap (λ n. n % 10) (weight_is_length w) ∙ h));
      counted = c.new.ensures.fresh;
    }
