use Rattle.std.proofs.Common.{◌*◌, sym, ap, ◌∙◌}
use Rattle.dt_elems.proofs.Cuts.{total-part}
use Rattle.dt_elems.proofs.counts.part_size.Goals as goal

pub returns : goal.returns
returns c =
    ap (λ n. n * c.from-2.result) c.from.ensures
    ∙ ap (λ n. c.args.part.now.copies * n) (c.from-2.ensures ∙ c.copy_size.ensures)
    ∙ sym (total-part c.args.rep c.args.part.now)
