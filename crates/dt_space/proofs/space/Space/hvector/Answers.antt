use Rattle.std.proofs.Common.{sym}
use Rattle.std.proofs.lemmas.Int.{to_z-of_z}
use Rattle.std.specs.Int.{w32, w64}
use Rattle.dt_form.specs.declared.form.FormOf.TheVariants as form
use Rattle.dt_space.proofs.Parts.{refused}
use Rattle.dt_space.proofs.space.Space.hvector.Goals as goal

pub returns-in_err-hvector : goal.returns-in_err-hvector
returns-in_err-hvector c =
    refused c.args.self.now c.args.old c.in_ok-kept.kept (λ t. form.Hvector c.args.count c.args.block c.args.stride t) c.in_err-hvector.field-0.0 c.from_residual-in_err-hvector.result
    c.in_ok-kept.ensures c.from_residual-in_err-hvector.ensures.1
    (rw (sym (to_z-of_z w32 c.args.count c.ranges.count), sym (to_z-of_z w32 c.args.block c.ranges.block), sym (to_z-of_z w64 c.args.stride c.ranges.stride)) c.in_err-hvector.ensures)
