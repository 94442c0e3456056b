use Rattle.std.proofs.Common.{refl, ap}
use Rattle.dt_reply.specs.declared.reply.Reply.TheVariants.{Described}
use Rattle.dt_script.specs.declared.command.Command.TheVariants.{Envelope}
use Rattle.dt_machine.proofs.Operations.{envelope_allowed, envelope_missing}
use Rattle.dt_machine.proofs.Outcomes.{told_outcome}
use Rattle.dt_machine.proofs.machine.Machine.envelope.Goals as goal

pub returns-in-Err : goal.returns-in-Err
returns-in-Err c = envelope_missing c.args.self.now c.args.ty.now c.in-Err.stop c.in-Err.ensures

pub returns : goal.returns
returns c =
    let kept = c.in-Ok.kept in
    told_outcome c.args.self.now (Envelope c.args.ty.now) (Described c.envelope.result) c.told.result
    (envelope_allowed c.args.self.now c.args.ty.now kept c.in-Ok.ensures) (kept, c.in-Ok.ensures, ap Described c.envelope.ensures, refl) refl c.told.ensures
