use Rattle.std.proofs.Common.{ℤ, pos, ap, sym, ◌∙◌, arith}
use Rattle.std.proofs.lemmas.Int.{to_z-of_z}
use Rattle.std.specs.Int.{w64}
use mir.Val.{to_z, of_z}
use Rattle.dt_map.specs.Elements.{elements, are_inside}
use Rattle.dt_map.specs.Packed.{total}
use Rattle.dt_map.specs.Typemap.{shift}
use Rattle.dt_type.specs.Datatype.{typemap_of}
use Rattle.dt_rows.proofs.Operation.{placed_elements}
use Rattle.dt_pack.proofs.session.PackSession.begin.Goals as goal

pub invariant_of-result : goal.invariant_of-result
invariant_of-result c =
    let m = typemap_of c.args.ty.now in
    let x : ℤ = to_z w64 (of_z w64 c.args.origin) in
    let first = c.in_ok-first_cursor.ensures.value in
    let bytes = ap (λ w. total w.rep w.elements) first in
    let all = c.packed_size.ensures (pos 0) in
    record {
      inside =
          ap (λ w. are_inside c.args.buf_len (shift x w.elements)) first
          ∙ ap (are_inside c.args.buf_len) (placed_elements m c.args.count x) ∙ sym c.span_inside.ensures ∙ c.if-not-span_inside.false;
      small = c.requires;
      few = omega (arith, bytes, all, c.if-packed_size.false);
    }

pub returns-clause-elements : goal.returns-clause-elements
returns-clause-elements c =
    let m = typemap_of c.args.ty.now in
    let x : ℤ = to_z w64 (of_z w64 c.args.origin) in
    ap (λ w. shift x w.elements) c.in_ok-first_cursor.ensures.value
    ∙ placed_elements m c.args.count x ∙ ap (elements m c.args.count) (to_z-of_z w64 c.args.origin c.ranges.origin)
