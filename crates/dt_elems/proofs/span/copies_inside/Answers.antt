use Rattle.std.proofs.Common.{ℤ, ◌+ℤ◌, to_z, of_z, ap, ◌∙◌, arith}
use Rattle.std.proofs.lemmas.Int.{ints, clamps}
use Rattle.std.specs.Int.{w128}
use Rattle.dt_type.specs.Datatype.{typemap_of}
use Rattle.dt_elems.proofs.Inside.{inside_by_ends}
use Rattle.dt_elems.proofs.Places.{place_of}
use Rattle.dt_elems.proofs.span.copies_inside.Goals as goal

pub overflow_add-low : goal.overflow_add-low
overflow_add-low c =
    let bounds = c.bounds-bounds.ensures in
    let small = bounds.in_range.true_lb in
    let is = ap (λ b. b.true_lb) bounds.value in
    let near = c.copy_at-last.ensures.near in
    omega (arith, ints, clamps, is, small, near)

pub overflow_add-high : goal.overflow_add-high
overflow_add-high c =
    let bounds = c.bounds-bounds.ensures in
    let small = bounds.in_range.true_ub in
    let is = ap (λ b. b.true_ub) bounds.value in
    let near = c.copy_at-last.ensures.near in
    omega (arith, ints, clamps, is, small, near)

pub returns : goal.returns
returns c =
    let bounds = c.bounds-bounds.ensures in
    let in_range = bounds.in_range in
    let low = ap (λ b. b.true_lb) bounds.value in
    let high = ap (λ b. b.true_ub) bounds.value in
    let near = c.copy_at-last.ensures.near in
    let place = place_of c.args.origin c.extent.result _ c.copy_at-last.result c.args.last c.ranges.origin (record { sfits = c.extent.type_inv }) c.extent.ensures.value c.copy_at-last.ensures.value in
    let least : ℤ = to_z w128 (of_z w128 (to_z w128 (of_z w128 c.from.result) +ℤ to_z w128 (of_z w128 c.min.result))) in
    let greatest : ℤ = to_z w128 (of_z w128 (to_z w128 (of_z w128 c.from-2.result) +ℤ to_z w128 (of_z w128 c.max.result))) in
    c.lies_within.ensures
    ∙ inside_by_ends c.args.len c.args.last (typemap_of c.args.ty.now) c.args.origin c.copy_at-last.result least greatest c.requires place
    (omega (arith, ints, clamps, low, in_range.true_lb, near))
    (omega (arith, ints, clamps, high, in_range.true_ub, near))
