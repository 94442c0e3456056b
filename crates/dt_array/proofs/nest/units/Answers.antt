use mir.Syntax.{w64, w128}
use Rattle.std.proofs.Common.{◌∙◌, ◌*ℤ◌, ◌-◌, ◌^◌, pos, arith, FitsSigned}
use Rattle.std.proofs.lemmas.Int.{ints, to_z-of_z, fits_signed_mul}
use Rattle.dt_array.proofs.nest.units.Goals as goal

pub returns : goal.returns
returns c =
    let times = to_z-of_z w128 c.from.result (record { sfits = c.from.type_inv }) ∙ c.from.ensures in
    let unit = to_z-of_z w128 c.from-2.result (record { sfits = c.from-2.type_inv }) ∙ c.from-2.ensures ∙ to_z-of_z w64 c.args.unit c.ranges.unit in
    let fits : FitsSigned w128 (pos c.args.times *ℤ c.args.unit) =
    fits_signed_mul w128 (pos c.args.times) c.args.unit (2 ^ 64 - 1) (2 ^ 63) (omega (arith, ints)) (omega (arith, ints)) (omega arith) in
    let product = to_z-of_z w128 (pos c.args.times *ℤ c.args.unit) fits in
    cc
