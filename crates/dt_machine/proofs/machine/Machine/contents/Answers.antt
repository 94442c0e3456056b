use Rattle.std.proofs.Common.{refl, ap}
use Rattle.dt_reply.specs.declared.reply.Reply.TheVariants.{Contained}
use Rattle.dt_script.specs.declared.command.Command.TheVariants.{Contents}
use Rattle.dt_machine.proofs.Operations.{contents_allowed, contents_missing, contents_named}
use Rattle.dt_machine.proofs.Outcomes.{told_outcome}
use Rattle.dt_machine.proofs.machine.Machine.contents.Goals as goal

pub returns-in-Err : goal.returns-in-Err
returns-in-Err c = contents_missing c.args.self.now c.args.ty.now c.in-Err.stop c.in-Err.ensures

pub returns-in-Err-Named : goal.returns-in-Err-Named
returns-in-Err-Named c =
    contents_named c.args.self.now c.args.ty.now c.in-Ok.kept c.in-Ok.ensures (rw c.in-Err-Named.field-0-is at c.in-Err-Named.ensures)

pub returns : goal.returns
returns c =
    let kept = c.in-Ok.kept in
    let listed = c.in-Ok-contents.ensures in
    told_outcome c.args.self.now (Contents c.args.ty.now) (Contained c.in-Ok-contents.contents) c.told.result
    (contents_allowed c.args.self.now c.args.ty.now kept c.in-Ok.ensures listed.0) (kept, c.in-Ok.ensures, ap Contained listed.1, refl) refl c.told.ensures
