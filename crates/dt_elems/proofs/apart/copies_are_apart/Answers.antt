use mir.Syntax.{w128}
use Rattle.std.proofs.Common.{◌⊎◌, ◌≤◌, ◌-ℤ◌, ◌≤ℤ◌, pos, refl, subst}
use Rattle.std.proofs.lemmas.Int.{to_z-of_z}
use Rattle.dt_map.specs.Bounds.{true_lb, true_ub, extent_of}
use Rattle.dt_type.specs.Datatype.{typemap_of}
use Rattle.dt_elems.proofs.Spreading.{IsLong, spread_row, apart_elements}
use Rattle.dt_elems.proofs.apart.copies_are_apart.Goals as goal

pub returns-then-steps_apart : goal.returns-then-steps_apart
returns-then-steps_apart c =
    let m = typemap_of c.args.ty.now in
    let room = to_z-of_z w128 c.true_extent.result (record { sfits = c.true_extent.type_inv }) in
    let step = to_z-of_z w128 c.extent.result (record { sfits = c.extent.type_inv }) in
    let told : (c.args.count ≤ 1) ⊎ IsLong c.true_extent.result c.extent.result = simp (room, step, c.from.ensures) at (c.if-steps_apart.ensures refl) in
    let long = subst (λ x. (c.args.count ≤ 1) ⊎ IsLong (true_ub m.entries -ℤ true_lb m.entries) x) c.extent.ensures.value (subst (λ r. (c.args.count ≤ 1) ⊎ IsLong r c.extent.result) c.true_extent.ensures.value told) in
    let some : pos 0 ≤ℤ (true_ub m.entries -ℤ true_lb m.entries) = simp c.true_extent.ensures.value at c.true_extent.ensures.some in
    λ ok origin. apart_elements m c.args.count origin (c.is_apart.ensures ok) (spread_row origin (extent_of m) c.args.count (true_ub m.entries -ℤ true_lb m.entries) some long)
