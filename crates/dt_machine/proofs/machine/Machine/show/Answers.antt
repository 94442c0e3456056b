use Rattle.std.proofs.Common.{refl, ap, ◌∙◌}
use Rattle.dt_reply.specs.declared.reply.Reply.TheVariants.{Shown}
use Rattle.dt_script.specs.declared.command.Command.TheVariants.{Show}
use Rattle.dt_machine.proofs.Operations.{show_unknown, show_allowed}
use Rattle.dt_machine.proofs.Outcomes.{told_outcome}
use Rattle.dt_machine.proofs.machine.Machine.show.Goals as goal

pub returns-in_default : goal.returns-in_default
returns-in_default c = show_unknown c.args.self.now c.args.buffer.now c.in_default.ensures

pub returns : goal.returns
returns c =
    let bytes = c.in-Some.bytes.now in
    told_outcome c.args.self.now (Show c.args.buffer.now) (Shown c.from_vec.result) c.told.result
    (show_allowed c.args.self.now c.args.buffer.now bytes c.in-Some.ensures.0) (bytes, c.in-Some.ensures.0, ap Shown (c.from_vec.ensures ∙ c.in_ok-bytes.ensures.items), refl) refl c.told.ensures
