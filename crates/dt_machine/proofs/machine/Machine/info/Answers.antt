use Rattle.std.proofs.Common.{refl, ap}
use Rattle.dt_reply.specs.declared.reply.Reply.TheVariants.{Told}
use Rattle.dt_script.specs.declared.command.Command.TheVariants.{Info}
use Rattle.dt_machine.proofs.Operations.{info_allowed, info_missing}
use Rattle.dt_machine.proofs.Outcomes.{told_outcome}
use Rattle.dt_machine.proofs.machine.Machine.info.Goals as goal

pub returns-in-Err : goal.returns-in-Err
returns-in-Err c = info_missing c.args.self.now c.args.ty.now c.in-Err.stop c.in-Err.ensures

pub returns : goal.returns
returns c =
    let kept = c.in-Ok.kept in
    told_outcome c.args.self.now (Info c.args.ty.now) (Told c.bounds.result kept.committed) c.told.result
    (info_allowed c.args.self.now c.args.ty.now kept c.in-Ok.ensures)
    (kept, c.in-Ok.ensures, ap (λ b. Told b kept.committed) c.bounds.ensures.value, refl) refl c.told.ensures
