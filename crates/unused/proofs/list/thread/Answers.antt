use Rattle.std.proofs.Common.{length, get_or, set, refl, ap, ◌∙◌}
use Rattle.std.proofs.lemmas.Option.{slice_get_read}
use Rattle.unused.proofs.Threading.{threads}
use Rattle.unused.proofs.list.thread.Goals as goal

pub returns : goal.returns
returns g c =
    let x = c.args.cells.now in
    let i = c.args.place in
    record {
      value = refl;
      after = threads x c.put.new.cells c.args.unused.first i c.index-cells-from.result (slice_get_read x (length x) i c.index-cells-from.result refl c.requires (c.index-cells-from.is ∙ ap (λ v. get_or x v c.index-cells-from.result) c.from.ensures)) (c.put.ensures.after ∙ ap (set x i) c.leading.ensures.value);
    }
