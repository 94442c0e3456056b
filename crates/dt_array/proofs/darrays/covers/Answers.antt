use mir.Syntax.{w32, w64}
use Rattle.std.proofs.Common.{◌∙◌, ◌*ℤ◌, ◌^◌, arith, FitsSigned}
use Rattle.std.proofs.lemmas.Int.{ints, to_z-of_z, fits_signed_mul}
use Rattle.dt_array.proofs.darrays.covers.Goals as goal

pub returns : goal.returns
returns c =
    let gsize = to_z-of_z w64 c.from.result (record { sfits = c.from.type_inv }) ∙ c.from.ensures ∙ to_z-of_z w32 c.args.gsize c.ranges.gsize in
    let darg = to_z-of_z w64 c.from-2.result (record { sfits = c.from-2.type_inv }) ∙ c.from-2.ensures ∙ to_z-of_z w32 c.args.darg c.ranges.darg in
    let psize = to_z-of_z w64 c.from-3.result (record { sfits = c.from-3.type_inv }) ∙ c.from-3.ensures ∙ to_z-of_z w32 c.args.psize c.ranges.psize in
    let fits : FitsSigned w64 (c.args.darg *ℤ c.args.psize) = fits_signed_mul w64 c.args.darg c.args.psize (2 ^ 31) (2 ^ 31) (omega (arith, ints)) (omega (arith, ints)) (omega arith) in
    let product = to_z-of_z w64 (c.args.darg *ℤ c.args.psize) fits in
    cc
