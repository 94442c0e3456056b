use Rattle.std.proofs.Common.{refl, ap, ◌∙◌}
use Rattle.dt_reply.specs.declared.reply.Reply.TheVariants.{Wire}
use Rattle.dt_script.specs.declared.command.Command.TheVariants.{Export}
use Rattle.dt_machine.proofs.Outcomes.{told_outcome}
use Rattle.dt_machine.proofs.Wires.{export_missing, export_allowed}
use Rattle.dt_machine.proofs.machine.Machine.export.Goals as goal

pub returns-in-Err : goal.returns-in-Err
returns-in-Err c = export_missing c.args.self.now c.args.ty.now c.in-Err.stop c.in-Err.ensures

pub returns : goal.returns
returns c =
    let s = c.args.self.now in
    let ty = c.args.ty.now in
    let kept = c.in-Ok.kept in
    told_outcome s (Export ty) (Wire c.from_vec.result) c.told.result (export_allowed s ty kept c.in-Ok.ensures)
    (kept, c.in-Ok.ensures, ap Wire (c.from_vec.ensures ∙ c.in_ok-wire.ensures), refl) refl c.told.ensures
