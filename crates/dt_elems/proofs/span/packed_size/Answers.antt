use Rattle.std.proofs.Common.{ap, sym, ◌∙◌, ◌*◌}
use Rattle.dt_type.specs.Datatype.{typemap_of}
use Rattle.dt_map.proofs.Copies.{total_of_elements}
use Rattle.dt_elems.proofs.span.packed_size.Goals as goal

pub returns : goal.returns
returns c origin =
    ap (λ n. n * c.from-2.result) c.from.ensures
    ∙ ap (λ n. c.args.count * n) (c.from-2.ensures ∙ c.copy_size.ensures)
    ∙ sym (total_of_elements c.args.rep (typemap_of c.args.ty.now) c.args.count origin)
