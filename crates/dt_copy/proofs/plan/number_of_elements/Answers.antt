use Rattle.std.proofs.Common.{◌*◌, sym, ap, ◌∙◌}
use Rattle.dt_type.specs.Datatype.{typemap_of}
use Rattle.dt_copy.proofs.Opened.{number_of}
use Rattle.dt_copy.proofs.plan.number_of_elements.Goals as goal

pub returns : goal.returns
returns c origin =
    let counted = c.from-2.ensures ∙ ap (λ b. b.elements) c.bounds.ensures.value in
    ap (λ n. n * c.from-2.result) c.from.ensures ∙ ap (λ n. c.args.count * n) counted ∙ sym (number_of (typemap_of c.args.ty.now) c.args.count origin)
