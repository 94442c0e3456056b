use Rattle.std.proofs.Common.{refl, ap}
use Rattle.dt_script.specs.declared.command.Command.TheVariants.{Buffer}
use Rattle.dt_machine.specs.declared.outcome.Change.TheVariants.{AddBuffer}
use Rattle.dt_machine.specs.State.{with_count, with_buffer}
use Rattle.dt_machine.proofs.Fills.{fill_can}
use Rattle.dt_machine.proofs.Rows.{refused, allowed}
use Rattle.dt_machine.proofs.Outcomes.{done_outcome}
use Rattle.dt_machine.proofs.machine.Machine.fill.Goals as goal

pub returns-in-Some : goal.returns-in-Some
returns-in-Some c = refused c.args.self.now (Buffer c.args.name.now c.args.fill.now) c.in-Some.refusal c.in-Some.ensures

pub returns : goal.returns
returns c =
    done_outcome c.args.self.now (Buffer c.args.name.now c.args.fill.now) (AddBuffer c.args.name.now c.in_ok-buffer.buffer) c.done.result
    (allowed c.args.self.now (Buffer c.args.name.now c.args.fill.now) c.in_default.ensures) (fill_can c.args.self.now c.args.name.now c.args.fill.now c.in_ok-buffer.buffer c.in_ok-buffer.ensures c.in_default.ensures)
    (refl, ap (λ bytes. with_count (with_buffer c.args.self.now c.args.name.now bytes)) c.in_ok-buffer.ensures) (rw c.in_ok-name.ensures.same at c.done.ensures)
