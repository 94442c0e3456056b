use Rattle.std.proofs.Common.{◌≡◌, ◌*◌, pos, length, sym, ap, ◌∙◌, arith}
use Rattle.dt_copy.proofs.Opened.{number_of}
use Rattle.dt_type.specs.Datatype.{typemap_of}
use Rattle.dt_machine.proofs.reducing.element_count.Goals as goal

pub overflow_mul-result : goal.overflow_mul-result
overflow_mul-result c =
    let m = typemap_of c.args.ty.now in
    let few = c.requires.few in
    let counted : c.from.result * c.bounds.result.elements ≡ c.args.copies * length m.entries =
    ap (λ n. n * c.bounds.result.elements) c.from.ensures ∙ ap (λ b. c.args.copies * b.elements) c.bounds.ensures.value in
    record { fits = omega (arith, few, counted, number_of m c.args.copies (pos 0)) }

pub returns : goal.returns
returns c origin =
    let m = typemap_of c.args.ty.now in
    ap (λ n. n * c.bounds.result.elements) c.from.ensures ∙ (ap (λ b. c.args.copies * b.elements) c.bounds.ensures.value ∙ sym (number_of m c.args.copies origin))
