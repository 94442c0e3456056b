use Rattle.std.proofs.Common.{◌≡◌, ◌*◌, length, sym, ap, ◌∙◌, arith}
use Rattle.dt_map.specs.declared.bounds.Bounds.{Bounds}
use Rattle.dt_type.proofs.Lookups.{part_entries, length-part}
use Rattle.dt_elems.proofs.Receiving.{elements_fit}
use Rattle.dt_elems.proofs.counts.part_elements.Goals as goal

pub returns : goal.returns
returns c =
    ap (λ n. n * c.bounds.result.elements) c.from.ensures
    ∙ ap (λ (b : Bounds). c.args.part.now.copies * b.elements) c.bounds.ensures.value
    ∙ sym (length-part c.args.part.now)

pub overflow_mul-result : goal.overflow_mul-result
overflow_mul-result c =
    let entries : c.from.result * c.bounds.result.elements ≡ length (part_entries c.args.part.now) =
    ap (λ n. n * c.bounds.result.elements) c.from.ensures
    ∙ ap (λ (b : Bounds). c.args.part.now.copies * b.elements) c.bounds.ensures.value
    ∙ sym (length-part c.args.part.now) in
    let fits = elements_fit c.args.rep (part_entries c.args.part.now) in
    let room = c.requires in
    omega (arith, c.ranges.bytes.fits)
