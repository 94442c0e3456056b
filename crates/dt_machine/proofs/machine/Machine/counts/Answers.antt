use Rattle.std.proofs.Common.{◌≡◌, nat_abs, refl}
use Rattle.std.proofs.lemmas.Int.{to_z-of_z}
use Rattle.std.specs.Int.{w64}
use Rattle.dt_reply.specs.declared.reply.Reply.TheVariants.{Counted}
use Rattle.dt_script.specs.declared.command.Command.TheVariants.{Elements}
use Rattle.dt_machine.proofs.Operations.{counts_missing, counts_negative, counts_allowed}
use Rattle.dt_machine.proofs.Outcomes.{told_outcome}
use Rattle.dt_machine.proofs.machine.Machine.counts.Goals as goal

pub returns-in-Err : goal.returns-in-Err
returns-in-Err c = counts_missing c.args.self.now c.args.rep c.args.bytes c.args.ty.now c.in-Err.stop c.in-Err.ensures

pub returns-then-bytes-lt0 : goal.returns-then-bytes-lt0
returns-then-bytes-lt0 c =
    counts_negative c.args.self.now c.args.rep c.args.bytes c.args.ty.now c.in-Ok.kept c.in-Ok.ensures
    (simp (to_z-of_z w64 c.args.bytes c.ranges.bytes) at c.if-bytes-lt0.true)

pub returns : goal.returns
returns c =
    let same = to_z-of_z w64 c.args.bytes c.ranges.bytes in
    let kept = c.in-Ok.kept in
    let number : c.unsigned_abs-bytes.result ≡ nat_abs c.args.bytes = simp same at c.unsigned_abs-bytes.ensures.value in
    told_outcome c.args.self.now (Elements c.args.rep c.args.bytes c.args.ty.now) (Counted c.whole_elements-elements.result c.whole_copies-copies.result) c.told.result
    (counts_allowed c.args.self.now c.args.rep c.args.bytes c.args.ty.now kept c.in-Ok.ensures (simp same at c.if-bytes-lt0.false))
    (kept, c.in-Ok.ensures, rw (c.whole_elements-elements.ensures, c.whole_copies-copies.ensures, number) refl, refl) refl c.told.ensures
