use Rattle.std.proofs.Common.{refl, ap, ◌∙◌, ◌≡◌}
use Rattle.std.proofs.lemmas.Bool.{true_from_ne_false}
use Rattle.std.proofs.lemmas.Int.{to_z-of_z}
use Rattle.std.specs.Int.{w32, w64}
use Rattle.dt_map.specs.Packed.{packed}
use Rattle.dt_reply.specs.declared.reply.Reply.TheVariants.{Packed}
use Rattle.dt_script.specs.declared.command.Command.TheVariants.{Bytes}
use Rattle.dt_machine.specs.Refusal.{elements_of}
use Rattle.dt_machine.proofs.Operations.{bytes_unknown, bytes_missing, bytes_allowed, bytes_withheld}
use Rattle.dt_machine.proofs.Outcomes.{told_outcome}
use Rattle.dt_machine.proofs.machine.Machine.bytes.Goals as goal

pub returns-in_default : goal.returns-in_default
returns-in_default c = bytes_unknown c.args.self.now c.args.rep c.args.count c.args.ty.now c.args.buffer.now c.args.origin c.in_default.ensures

pub returns-in-Err : goal.returns-in-Err
returns-in-Err c =
    bytes_missing c.args.self.now c.args.rep c.args.count c.args.ty.now c.args.buffer.now c.args.origin c.in-Some.buffer.now c.in-Some.ensures.0
    c.in-Err.stop c.in-Err.ensures

pub returns-in-Some-refused_operation : goal.returns-in-Some-refused_operation
returns-in-Some-refused_operation c =
    bytes_withheld c.args.self.now c.args.rep c.args.count c.args.ty.now c.args.buffer.now c.args.origin c.in-Some.buffer.now c.in-Some.ensures.0 c.in-Ok.kept
    c.in-Ok.ensures c.in-Some-refused_operation.refusal
    (simp (to_z-of_z w32 c.args.count c.ranges.count, to_z-of_z w64 c.args.origin c.ranges.origin) at c.in-Some-refused_operation.ensures)

pub packed_bytes-requires-clause-inside : goal.packed_bytes-requires-clause-inside
packed_bytes-requires-clause-inside c =
    let origin = to_z-of_z w64 c.args.origin c.ranges.origin in
    let printed = simp (to_z-of_z w32 c.args.count c.ranges.count, origin) at c.in_default-refused_operation.ensures in
    let copies = simp (to_z-of_z w32 c.args.count c.ranges.count) at c.unsigned_abs-copies.ensures.value in
    simp (copies, origin) (true_from_ne_false _ printed.1.0)

pub returns : goal.returns
returns c =
    let origin = to_z-of_z w64 c.args.origin c.ranges.origin in
    let printed = simp (to_z-of_z w32 c.args.count c.ranges.count, origin) at c.in_default-refused_operation.ensures in
    let copies = simp (to_z-of_z w32 c.args.count c.ranges.count) at c.unsigned_abs-copies.ensures.value in
    let kept = c.in-Ok.kept in
    let held = c.in-Some.buffer.now in
    let es = elements_of kept c.args.count c.args.origin in
    let bytes : c.in_ok-bytes.bytes.items ≡ packed c.args.rep es held = simp (copies, origin) at c.in_ok-bytes.ensures in
    told_outcome c.args.self.now (Bytes c.args.rep c.args.count c.args.ty.now c.args.buffer.now c.args.origin) (Packed c.from_vec.result) c.told.result
    (bytes_allowed c.args.self.now c.args.rep c.args.count c.args.ty.now c.args.buffer.now c.args.origin held c.in-Some.ensures.0 kept c.in-Ok.ensures printed)
    (kept, held, c.in-Ok.ensures, c.in-Some.ensures.0, ap Packed (c.from_vec.ensures ∙ bytes), refl) refl c.told.ensures
