use Rattle.std.proofs.Common.{sym, ◌∙◌}
use Rattle.dt_script.specs.declared.command.Command.TheVariants.{Commit}
use Rattle.dt_names.specs.declared.stop.Stop.TheVariants.{Refused}
use Rattle.dt_machine.specs.declared.outcome.Change.TheVariants as change
use Rattle.dt_machine.proofs.NamedTypes.{here, commit_missing, commit_allowed, commit_basic, commit_plain}
use Rattle.dt_machine.proofs.Outcomes.{done_outcome}
use Rattle.dt_machine.proofs.machine.Machine.commit.Goals as goal

pub returns-in-Some : goal.returns-in-Some
returns-in-Some c = commit_missing c.args.self.now c.args.ty.now (Refused c.in-Some.refusal) c.in-Some.ensures

pub returns-then-is_reserved : goal.returns-then-is_reserved
returns-then-is_reserved c =
    let (kept, is) = here c.args.self.now c.args.ty.now c.in_default.ensures in
    done_outcome c.args.self.now (Commit c.args.ty.now) change.Nothing c.done.result (commit_allowed c.args.self.now c.args.ty.now kept is) tt
    (commit_basic c.args.self.now c.args.ty.now kept is (sym c.is_reserved.ensures ∙ c.if-is_reserved.true)) c.done.ensures

pub returns : goal.returns
returns c =
    let (kept, is) = here c.args.self.now c.args.ty.now c.in_default.ensures in
    let plain = commit_plain c.args.self.now c.args.ty.now kept is (sym c.is_reserved.ensures ∙ c.if-is_reserved.false) in
    done_outcome c.args.self.now (Commit c.args.ty.now) (change.Commit c.args.ty.now) c.done-2.result (commit_allowed c.args.self.now c.args.ty.now kept is) plain.0
    plain.1 (rw c.in_ok-name.ensures.same at c.done-2.ensures)
