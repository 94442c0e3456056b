use Rattle.std.proofs.Common.{◌≡◌, length, nat_abs, to_z, of_z, refl, subst}
use Rattle.std.proofs.lemmas.Int.{to_z-of_z}
use Rattle.std.specs.Int.{w32, w64}
use Rattle.dt_reply.specs.declared.reply.Reply.TheVariants.{Opened}
use Rattle.dt_script.specs.declared.command.Command.TheVariants.{Unpack}
use Rattle.dt_sessions.specs.Open.{unpacking}
use Rattle.dt_machine.specs.declared.outcome.Change.TheVariants.{OpenSession}
use Rattle.dt_map.specs.Elements.{elements, Overlaps}
use Rattle.dt_type.specs.Datatype.{typemap_of}
use Rattle.dt_machine.specs.Refusal.{IsTooMuch, elements_of}
use Rattle.dt_machine.specs.State.{buffer_of}
use Rattle.dt_machine.specs.Step.{receiving}
use Rattle.dt_machine.proofs.Opening.{unpack_allowed, unpack_too_large}
use Rattle.dt_machine.proofs.Outcomes.{outcome_of}
use Rattle.dt_machine.proofs.Rows.{some_and}
use Rattle.dt_unpack.specs.Session as unpack
use Rattle.dt_machine.proofs.machine.Machine.unpack.Goals as goal

pub returns-then-is_too_much : goal.returns-then-is_too_much
returns-then-is_too_much c =
    let a = c.args in
    let s = a.self.now in
    let kept = c.in-Ok.kept in
    let (held, stands, len, small) = c.in-Some.ensures in
    let count = to_z-of_z w32 a.count c.ranges.count in
    let origin = to_z-of_z w64 a.origin c.ranges.origin in
    let copies : c.unsigned_abs-copies.result ≡ nat_abs a.count = simp count at c.unsigned_abs-copies.ensures.value in
    let clear = simp (count, origin, len) at c.in_default-refused_place.ensures in
    let raw = rw c.in-Some-2.is at c.in_ok-session.ensures in
    let apart : ¬ Overlaps (elements_of kept a.count a.origin) =
    subst (λ o. ¬ Overlaps (elements (typemap_of kept.ty) (nat_abs a.count) o)) origin
    (subst (λ n. ¬ Overlaps (elements (typemap_of kept.ty) n (to_z w64 (of_z w64 a.origin)))) copies raw.1)
    in
    unpack_too_large s a.name.now a.rep a.count a.ty.now a.buffer.now a.origin held stands c.in_default-refused_session.ensures kept c.in-Ok.ensures clear apart
    ((c.is_too_much.ensures kept a.count a.origin refl copies).0 c.if-is_too_much.true)

pub returns : goal.returns
returns c =
    let a = c.args in
    let s = a.self.now in
    let kept = c.in-Ok.kept in
    let (held, stands, len, small) = c.in-Some.ensures in
    let count = to_z-of_z w32 a.count c.ranges.count in
    let origin = to_z-of_z w64 a.origin c.ranges.origin in
    let copies : c.unsigned_abs-copies.result ≡ nat_abs a.count = simp count at c.unsigned_abs-copies.ensures.value in
    let clear = simp (count, origin, len) at c.in_default-refused_place.ensures in
    let raw = rw c.in-Some-2.is at c.in_ok-session.ensures in
    let apart : ¬ Overlaps (elements_of kept a.count a.origin) =
    subst (λ o. ¬ Overlaps (elements (typemap_of kept.ty) (nat_abs a.count) o)) origin
    (subst (λ n. ¬ Overlaps (elements (typemap_of kept.ty) n (to_z w64 (of_z w64 a.origin)))) copies raw.1)
    in
    let session = receiving kept a.rep a.count a.origin (length held) in
    let made : c.in-Some-2.session ≡ session = simp (copies, origin, len) at raw.0 in
    let few : ¬ IsTooMuch s a.rep a.count a.origin kept = λ large. let so = (c.is_too_much.ensures kept a.count a.origin refl copies).1 large in cc in
    outcome_of s (Unpack a.name.now a.rep a.count a.ty.now a.buffer.now a.origin) (Opened (unpack.total_of session)) (OpenSession a.name.now (unpacking a.buffer.now session)) _
    (unpack_allowed s a.name.now a.rep a.count a.ty.now a.buffer.now a.origin held stands c.in_default-refused_session.ensures kept c.in-Ok.ensures clear apart few)
    (some_and (buffer_of s a.buffer.now) (λ bytes. length bytes ≡ length held) held stands refl) (kept, held, c.in-Ok.ensures, stands, refl, refl) refl
    (rw (c.in_ok-name.ensures.same, c.in_ok-buffer.ensures.same, c.total.ensures, made) refl)
