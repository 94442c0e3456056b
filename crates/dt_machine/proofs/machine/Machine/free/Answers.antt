use Rattle.std.proofs.Common.{refl, sym, ◌∙◌}
use Rattle.dt_script.specs.declared.command.Command.TheVariants.{Free}
use Rattle.dt_names.specs.declared.stop.Stop.TheVariants.{Refused}
use Rattle.dt_machine.specs.declared.outcome.Change.TheVariants as change
use Rattle.dt_machine.proofs.NamedTypes.{here, free_missing, free_allowed, free_basic, free_can}
use Rattle.dt_machine.proofs.Outcomes.{done_outcome}
use Rattle.dt_machine.proofs.machine.Machine.free.Goals as goal

pub returns-in-Some : goal.returns-in-Some
returns-in-Some c = free_missing c.args.self.now c.args.ty.now (Refused c.in-Some.refusal) c.in-Some.ensures

pub returns-then-is_basic : goal.returns-then-is_basic
returns-then-is_basic c =
    let (kept, is) = here c.args.self.now c.args.ty.now c.in_default.ensures in
    free_basic c.args.self.now c.args.ty.now kept is (sym c.is_basic.ensures ∙ c.if-is_basic.true)

pub returns : goal.returns
returns c =
    let (kept, is) = here c.args.self.now c.args.ty.now c.in_default.ensures in
    let derived = sym c.is_basic.ensures ∙ c.if-is_basic.false in
    done_outcome c.args.self.now (Free c.args.ty.now) (change.Free c.args.ty.now) c.done.result (free_allowed c.args.self.now c.args.ty.now kept is derived)
    (free_can c.args.self.now c.args.ty.now kept is derived) (refl, refl) (rw c.in_ok-name.ensures.same at c.done.ensures)
