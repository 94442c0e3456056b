use Rattle.std.proofs.Common.{sym}
use Rattle.std.proofs.lemmas.Int.{to_z-of_z}
use Rattle.std.specs.Int.{w32}
use Rattle.dt_form.specs.declared.form.FormOf.TheVariants as form
use Rattle.dt_space.proofs.Parts.{refused}
use Rattle.dt_space.proofs.space.Space.darray.Goals as goal

pub returns-in_err-darray : goal.returns-in_err-darray
returns-in_err-darray c =
    refused c.args.self.now c.args.old c.in_ok-kept.kept (λ t. form.Darray c.args.size c.args.rank c.args.dims.now c.args.order t) c.in_err-darray.field-0.0 c.from_residual-in_err-darray.result
    c.in_ok-kept.ensures c.from_residual-in_err-darray.ensures.1
    (rw (sym (to_z-of_z w32 c.args.size c.ranges.size), sym (to_z-of_z w32 c.args.rank c.ranges.rank)) c.in_err-darray.ensures)
