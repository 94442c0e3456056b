use Rattle.std.proofs.Common.{rules, ◌≡◌, subst, to_z, of_z}
use mir.Syntax.{w32}
use Rattle.dt_form.specs.declared.form.FormOf.{FormOf}
use Rattle.dt_form.specs.declared.form.FormOf.TheVariants as form
use Rattle.dt_type.specs.declared.datatype.Seen.{Seen}
use Rattle.dt_type.specs.Answer.{IsAnswer}
use Rattle.dt_wire.specs.Building.{with_old}
use Rattle.dt_wire.proofs.args.construct.Goals as goal

pub returns-in-Darray : goal.returns-in-Darray
returns-in-Darray c =
    let size : to_z w32 (of_z w32 c.in-Darray.size) ≡ c.in-Darray.size = search rules in
    let rank : to_z w32 (of_z w32 c.in-Darray.rank) ≡ c.in-Darray.rank = search rules in
    let dims : c.as_slice-in-Darray.result.now ≡ c.in-Darray.dims = search rules in
    let made : form.Darray (to_z w32 (of_z w32 c.in-Darray.size)) (to_z w32 (of_z w32 c.in-Darray.rank)) c.as_slice-in-Darray.result.now c.in-Darray.order c.args.old.now ≡ with_old c.args.arguments.now c.args.old.now = cc (size, rank, dims, c.in-Darray.is) in
    subst (λ (f : FormOf Seen). IsAnswer f c.darray.result) made c.darray.ensures
