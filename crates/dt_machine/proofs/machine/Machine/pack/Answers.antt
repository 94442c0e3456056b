use Rattle.std.proofs.Common.{◌≡◌, length, refl}
use Rattle.std.proofs.lemmas.Int.{to_z-of_z}
use Rattle.std.specs.Int.{w32, w64}
use Rattle.dt_pack.specs.Session as pack
use Rattle.dt_reply.specs.declared.reply.Reply.TheVariants.{Opened}
use Rattle.dt_script.specs.declared.command.Command.TheVariants.{Pack}
use Rattle.dt_sessions.specs.Open.{packing}
use Rattle.dt_machine.specs.declared.outcome.Change.TheVariants.{OpenSession}
use Rattle.dt_machine.specs.State.{buffer_of}
use Rattle.dt_machine.specs.Step.{begun}
use Rattle.dt_machine.proofs.Opening.{pack_allowed, pack_withheld}
use Rattle.dt_machine.proofs.Outcomes.{outcome_of}
use Rattle.dt_machine.proofs.Rows.{some_and}
use Rattle.dt_machine.proofs.machine.Machine.pack.Goals as goal

pub returns-in-Some-refused_opening : goal.returns-in-Some-refused_opening
returns-in-Some-refused_opening c =
    let a = c.args in
    let (held, stands, len, small) = c.in-Some.ensures in
    pack_withheld a.self.now a.name.now a.rep a.count a.ty.now a.buffer.now a.origin held stands c.in_default-refused_session.ensures c.in-Ok.kept c.in-Ok.ensures
    c.in-Some-refused_opening.refusal
    (simp (to_z-of_z w32 a.count c.ranges.count, to_z-of_z w64 a.origin c.ranges.origin, len) at c.in-Some-refused_opening.ensures)

pub returns : goal.returns
returns c =
    let a = c.args in
    let s = a.self.now in
    let kept = c.in-Ok.kept in
    let (held, stands, len, small) = c.in-Some.ensures in
    let count = to_z-of_z w32 a.count c.ranges.count in
    let origin = to_z-of_z w64 a.origin c.ranges.origin in
    let copies = simp count at c.unsigned_abs.ensures.value in
    let clear = simp (count, origin, len) at c.in_default-refused_opening.ensures in
    let session = begun kept a.rep a.count a.origin (length held) in
    let made : c.in_ok-session.session ≡ session = simp (copies, origin, len) at c.in_ok-session.ensures in
    outcome_of s (Pack a.name.now a.rep a.count a.ty.now a.buffer.now a.origin) (Opened (pack.total_of session)) (OpenSession a.name.now (packing a.buffer.now session)) _
    (pack_allowed s a.name.now a.rep a.count a.ty.now a.buffer.now a.origin held stands c.in_default-refused_session.ensures kept c.in-Ok.ensures clear)
    (some_and (buffer_of s a.buffer.now) (λ bytes. length bytes ≡ length held) held stands refl) (kept, held, c.in-Ok.ensures, stands, refl, refl) refl
    (rw (c.in_ok-name.ensures.same, c.in_ok-buffer.ensures.same, c.total.ensures, made) refl)
