use Rattle.std.proofs.Common.{refl, ap}
use Rattle.dt_reply.specs.declared.reply.Reply.TheVariants.{Listed}
use Rattle.dt_script.specs.declared.command.Command.TheVariants.{Map}
use Rattle.dt_machine.proofs.Operations.{map_allowed, map_missing, map_too_many}
use Rattle.dt_machine.proofs.Outcomes.{told_outcome}
use Rattle.dt_machine.proofs.machine.Machine.map.Goals as goal

pub returns-in-Err : goal.returns-in-Err
returns-in-Err c = map_missing c.args.self.now c.args.ty.now c.in-Err.stop c.in-Err.ensures

pub returns-in-Err-TooMany : goal.returns-in-Err-TooMany
returns-in-Err-TooMany c =
    map_too_many c.args.self.now c.args.ty.now c.in-Ok.kept c.in-Ok.ensures (rw c.in-Err-TooMany.field-0-is at c.in-Err-TooMany.ensures)

pub returns : goal.returns
returns c =
    let kept = c.in-Ok.kept in
    let listed = c.in-Ok-flatten.ensures in
    told_outcome c.args.self.now (Map c.args.ty.now) (Listed c.in-Ok-flatten.map) c.told.result
    (map_allowed c.args.self.now c.args.ty.now kept c.in-Ok.ensures listed.1) (kept, c.in-Ok.ensures, ap Listed listed.0, refl) refl c.told.ensures
