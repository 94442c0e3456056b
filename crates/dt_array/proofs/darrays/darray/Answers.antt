use mir.Syntax.{w32}
use Rattle.std.proofs.Common.{ℤ, nat_abs, IsTrue, subst, rules}
use Rattle.std.proofs.lemmas.Int.{to_z-of_z}
use Rattle.dt_type.specs.declared.datatype.Seen.{Seen}
use Rattle.dt_form.specs.declared.form.FormOf.{FormOf}
use Rattle.dt_form.specs.declared.form.FormOf.TheVariants.{Darray}
use Rattle.dt_form.specs.Arguments.{takes_arguments}
use Rattle.dt_type.specs.Arrays.{darray_axes}
use Rattle.dt_type.proofs.Answers.{again}
use Rattle.dt_array.specs.Array.{IsArrayOf}
use Rattle.dt_array.specs.Indices.{AreChosen}
use Rattle.dt_array.proofs.Grids.{darray_says}
use Rattle.dt_array.proofs.darrays.darray.Goals as goal

pub array_of-requires-clause-form : goal.array_of-requires-clause-form
array_of-requires-clause-form c =
    let size = to_z-of_z w32 c.args.size c.ranges.size in
    let rank = to_z-of_z w32 c.args.rank c.ranges.rank in
    let old = c.in_ok-share.ensures in
    let dims = c.in_ok-from_slice.ensures in
    let taken : IsTrue (takes_arguments (Darray c.args.size c.args.rank c.args.dims.now c.args.order c.args.old.now)) = search rules in
    let made = c.in_ok-indices.indices.items in
    let part = subst (λ (r : ℤ). AreChosen made (darray_axes (nat_abs r) c.args.dims.now)) rank c.in_ok-indices.ensures in
    subst (λ (f : FormOf Seen). IsArrayOf c.args.order made c.args.old.now f) (cc)
    (darray_says c.args.size c.args.rank c.args.dims.now c.args.order c.args.old.now made part taken)

pub returns : goal.returns
returns c =
    let size = to_z-of_z w32 c.args.size c.ranges.size in
    let rank = to_z-of_z w32 c.args.rank c.ranges.rank in
    let old = c.in_ok-share.ensures in
    let dims = c.in_ok-from_slice.ensures in
    again _ _ _ c.array_of.ensures (cc)
