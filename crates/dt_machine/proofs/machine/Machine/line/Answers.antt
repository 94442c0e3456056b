use Rattle.std.proofs.Common.{refl, sym, append-nil}
use Rattle.dt_reply.specs.declared.reply.Reply.TheVariants.{Silent}
use Rattle.dt_script.specs.Line.{Blank}
use Rattle.dt_machine.proofs.Lines.{obeyed_line}
use Rattle.dt_machine.proofs.machine.Machine.line.Goals as goal

pub returns-in-Ok-None-clause-step : goal.returns-in-Ok-None-clause-step
returns-in-Ok-None-clause-step c =
    (Silent, (Blank, rw c.in-Ok-None.field-0-is at c.in-Ok-None.ensures.meaning, (refl, refl)), record { text = sym (append-nil c.args.out.now.items); answer = refl })

pub returns-in-Ok-Some-clause-step : goal.returns-in-Ok-Some-clause-step
returns-in-Ok-Some-clause-step c =
    obeyed_line c.args.self.now c.step.new.self c.args.line.now c.args.out.now.items c.step.new.out.items c.in-Ok-Some.command c.step.result
    (rw c.in-Ok-Some.field-0-is at c.in-Ok-Some.ensures.meaning) c.step.ensures.ok
