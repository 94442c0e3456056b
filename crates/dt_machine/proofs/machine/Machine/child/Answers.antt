use Rattle.std.proofs.Common.{refl}
use Rattle.std.proofs.lemmas.Int.{to_z-of_z}
use Rattle.std.specs.Int.{w32}
use Rattle.dt_script.specs.declared.command.Command.TheVariants.{Child}
use Rattle.dt_type.specs.Basic.{is_basic}
use Rattle.dt_machine.specs.declared.outcome.Change.TheVariants.{AddType}
use Rattle.dt_machine.specs.Refusal.{NoMoreTypes}
use Rattle.dt_machine.proofs.Rows.{contrary}
use Rattle.dt_machine.proofs.NamedTypes.{child_names, child_missing, child_lacks, child_allowed, child_can}
use Rattle.dt_machine.proofs.Outcomes.{done_outcome}
use Rattle.dt_machine.proofs.machine.Machine.child.Goals as goal

pub returns-in-Some : goal.returns-in-Some
returns-in-Some c = child_names c.args.self.now c.args.name.now c.args.ty.now c.args.k c.in-Some.refusal c.in-Some.ensures

pub returns-in-Err : goal.returns-in-Err
returns-in-Err c = child_missing c.args.self.now c.args.name.now c.args.ty.now c.args.k c.in_default.ensures c.in-Err.stop c.in-Err.ensures

pub returns-in-Err-NoSuchChild : goal.returns-in-Err-NoSuchChild
returns-in-Err-NoSuchChild c =
    let none = simp (to_z-of_z w32 c.args.k c.ranges.k) at (rw c.in-Err-NoSuchChild.field-0-is at c.in-Err-NoSuchChild.ensures) in
    child_lacks c.args.self.now c.args.name.now c.args.ty.now c.args.k c.in_default.ensures c.in-Ok.kept c.in-Ok.ensures none.0 none.1

pub returns : goal.returns
returns c =
    let child = c.in-Ok-child.child in
    let old = simp (to_z-of_z w32 c.args.k c.ranges.k) at c.in-Ok-child.ensures in
    let more : ¬ NoMoreTypes c.args.self.now = λ full. contrary c.is_full.result c.if-is_full.false (c.is_full.ensures.1 full) in
    done_outcome c.args.self.now (Child c.args.name.now c.args.ty.now c.args.k) (AddType c.args.name.now (record { ty = child; committed = is_basic child })) c.done.result
    (child_allowed c.args.self.now c.args.name.now c.args.ty.now c.args.k c.in_default.ensures c.in-Ok.kept c.in-Ok.ensures child old.0 old.1 more)
    (child_can c.args.self.now c.args.name.now c.args.ty.now c.args.k c.in_default.ensures c.in-Ok.kept c.in-Ok.ensures child more)
    (c.in-Ok.kept, child, c.in-Ok.ensures, old.1, refl, refl) (rw (c.in_ok-name.ensures.same, c.is_basic-committed.ensures) at c.done.ensures)
