use Rattle.dt_script.specs.declared.command.Command.TheVariants.{Define}
use Rattle.dt_machine.specs.declared.outcome.Change.TheVariants.{AddType}
use Rattle.dt_machine.specs.Refusal.{NoMoreTypes}
use Rattle.dt_machine.specs.State.{is_unknown}
use Rattle.dt_script.specs.Olds.{any_old}
use Rattle.dt_kinds.specs.Name.{is_left_out}
use Rattle.dt_machine.proofs.Rows.{contrary}
use Rattle.dt_machine.proofs.Definitions.{olds_stand, define_names, define_fault, define_many, define_allowed, define_can, define_performs}
use Rattle.dt_machine.proofs.NamedTypes.{names_known, names_supported}
use Rattle.dt_machine.proofs.Outcomes.{done_outcome}
use Rattle.dt_machine.proofs.machine.Machine.define.Goals as goal

pub made-requires : goal.made-requires
made-requires c =
    let s = c.args.self.now in
    let ctor = c.args.ctor.now in
    let known = names_known s c.args.name.now (any_old (is_unknown s) ctor) (any_old is_left_out ctor) c.in_default.ensures in
    let supported = names_supported s c.args.name.now (any_old (is_unknown s) ctor) (any_old is_left_out ctor) c.in_default.ensures in
    olds_stand s ctor known supported

pub returns-in-Some : goal.returns-in-Some
returns-in-Some c = define_names c.args.self.now c.args.name.now c.args.ctor.now c.in-Some.refusal c.in-Some.ensures

pub returns-in-Err : goal.returns-in-Err
returns-in-Err c =
    rw c.stop_of.ensures (define_fault c.args.self.now c.args.name.now c.args.ctor.now c.in_default.ensures c.in-Err.fault c.in-Err.ensures)

pub returns-then-is_full : goal.returns-then-is_full
returns-then-is_full c =
    define_many c.args.self.now c.args.name.now c.args.ctor.now c.in_default.ensures c.in-Ok.ty c.in-Ok.ensures (c.is_full.ensures.0 c.if-is_full.true)

pub returns : goal.returns
returns c =
    let ty = c.in-Ok.ty in
    let committed = c.is_committed_by-committed.result in
    let more : ¬ NoMoreTypes c.args.self.now = λ full. contrary c.is_full.result c.if-is_full.false (c.is_full.ensures.1 full) in
    done_outcome c.args.self.now (Define c.args.name.now c.args.ctor.now) (AddType c.args.name.now (record { ty = ty; committed = committed })) c.done.result
    (define_allowed c.args.self.now c.args.name.now c.args.ctor.now c.in_default.ensures ty c.in-Ok.ensures more)
    (define_can c.args.self.now c.args.name.now c.args.ctor.now c.in_default.ensures ty committed c.in-Ok.ensures more)
    (define_performs c.args.self.now c.args.name.now c.args.ctor.now c.in_default.ensures ty committed c.in-Ok.ensures c.is_committed_by-committed.ensures)
    (rw c.in_ok-name.ensures.same at c.done.ensures)
