use Rattle.std.proofs.Common.{◌≡◌, false, sym, ◌∙◌}
use Rattle.dt_script.specs.declared.command.Command.TheVariants.{Import}
use Rattle.dt_type.specs.Basic.{is_basic}
use Rattle.dt_wire.specs.Import.{IsImported}
use Rattle.dt_machine.specs.declared.outcome.Change.TheVariants.{AddType}
use Rattle.dt_machine.specs.Refusal.{NoMoreTypes}
use Rattle.dt_machine.specs.State.{is_type_taken}
use Rattle.dt_machine.proofs.NamedTypes.{can_make, free_under}
use Rattle.dt_machine.proofs.Outcomes.{done_outcome}
use Rattle.dt_machine.proofs.Rows.{contrary}
use Rattle.dt_machine.proofs.Wires.{import_unread, import_full, import_allowed, import_performs, none_found}
use Rattle.dt_machine.proofs.machine.Machine.import.Goals as goal

pub returns-in-Err : goal.returns-in-Err
returns-in-Err c =
    let s = c.args.self.now in
    let name = c.args.name.now in
    import_unread s name c.args.wire.now (contrary (is_type_taken s name) (sym c.is_type_taken.ensures ∙ c.if-is_type_taken.false)) c.in-Err.stop c.in-Err.ensures

pub returns-then-is_full : goal.returns-then-is_full
returns-then-is_full c =
    let s = c.args.self.now in
    let name = c.args.name.now in
    let wire = c.args.wire.now in
    let new = contrary (is_type_taken s name) (sym c.is_type_taken.ensures ∙ c.if-is_type_taken.false) in
    import_full s name wire new (none_found s name wire new c.in-Ok.read c.in-Ok.ensures) (c.is_full.ensures.0 c.if-is_full.true)

pub returns : goal.returns
returns c =
    let s = c.args.self.now in
    let name = c.args.name.now in
    let wire = c.args.wire.now in
    let ty = c.in-Some.ty in
    let free : is_type_taken s name ≡ false = sym c.is_type_taken.ensures ∙ c.if-is_type_taken.false in
    let new = contrary (is_type_taken s name) free in
    let more : ¬ NoMoreTypes s = λ full. contrary c.is_full.result c.if-is_full.false (c.is_full.ensures.1 full) in
    let imported : IsImported wire ty = rw c.in-Some.is at c.in-Ok.ensures in
    done_outcome s (Import name wire) (AddType name (record { ty = ty; committed = is_basic ty })) c.done.result
    (import_allowed s name wire new (none_found s name wire new c.in-Ok.read c.in-Ok.ensures) more (imported.form, imported.text))
    (free_under s name free, can_make s more, λ basic. basic) (import_performs s name wire ty imported)
    (rw (c.in_ok-name.ensures.same, c.is_basic-committed.ensures) at c.done.ensures)
