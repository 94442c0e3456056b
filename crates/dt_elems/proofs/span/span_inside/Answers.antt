use Rattle.std.proofs.Common.{ap, sym, ◌∙◌, not}
use Rattle.dt_map.specs.Elements.{are_inside}
use Rattle.dt_type.specs.Datatype.{typemap_of}
use Rattle.dt_elems.proofs.Inside.{no_elements}
use Rattle.dt_elems.proofs.span.span_inside.Goals as goal

pub returns-then-not-has_elements : goal.returns-then-not-has_elements
returns-then-not-has_elements c =
    let none = no_elements (typemap_of c.args.ty.now) c.args.count c.args.origin (λ some. let has = c.has_elements.ensures.1 some in cc) in
    ap not c.if-not-has_elements.true ∙ sym (ap (are_inside c.args.len) none)
