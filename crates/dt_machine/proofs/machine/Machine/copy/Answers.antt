use Rattle.std.proofs.Common.{◌≡◌, length, nat_abs, refl, sym, subst, ◌∙◌}
use Rattle.std.proofs.lemmas.Int.{to_z-of_z}
use Rattle.std.proofs.lemmas.Slice.Eq.{bytes_eq-Decides}
use Rattle.std.specs.Int.{w32, w64}
use Rattle.dt_copy.specs.Plan.{CanCopy}
use Rattle.dt_kinds.specs.declared.kind.Rep.TheVariants.{Native}
use Rattle.dt_map.specs.Packed.{total}
use Rattle.dt_reply.specs.declared.reply.Reply.TheVariants.{Copied}
use Rattle.dt_script.specs.declared.command.Command.TheVariants.{Copy}
use Rattle.dt_machine.specs.declared.outcome.Change.TheVariants.{CopyBytes}
use Rattle.dt_machine.specs.Sides.{side, copy_between}
use Rattle.dt_machine.proofs.Copies.{types_missing, both_withheld, copy_uncopied, copy_same, copy_allowed, copy_can, copy_performs}
use Rattle.dt_machine.proofs.Outcomes.{outcome_of}
use Rattle.dt_machine.proofs.Rows.{contrary}
use Rattle.dt_machine.proofs.machine.Machine.copy.Goals as goal

pub returns-in-Err : goal.returns-in-Err
returns-in-Err c =
    let a = c.args in
    let (old, there, len, small) = c.in-Some.ensures in
    let (held, here, room, low) = c.in-Some-buffer_len.ensures in
    types_missing a.self.now a.source_count a.source_type.now a.source.now a.source_origin a.target_count a.target_type.now a.target.now a.target_origin old held there
    here c.in-Err.stop c.in-Err.ensures

pub returns-in-Some-refused_both : goal.returns-in-Some-refused_both
returns-in-Some-refused_both c =
    let a = c.args in
    let (old, there, len, small) = c.in-Some.ensures in
    let (held, here, room, low) = c.in-Some-buffer_len.ensures in
    both_withheld a.self.now a.source_count a.source_type.now a.source.now a.source_origin a.target_count a.target_type.now a.target.now a.target_origin old held there
    here c.in-Ok.both.0 c.in-Ok.both.1 c.in-Ok.ensures.0 c.in-Ok.ensures.1 c.in-Some-refused_both.refusal
    (simp (to_z-of_z w32 a.source_count c.ranges.source_count, to_z-of_z w32 a.target_count c.ranges.target_count) at c.in-Some-refused_both.ensures)

pub returns-in-Err-planned : goal.returns-in-Err-planned
returns-in-Err-planned c =
    let a = c.args in
    let (old, there, len, small) = c.in-Some.ensures in
    let (held, here, room, low) = c.in-Some-buffer_len.ensures in
    let count = to_z-of_z w32 a.source_count c.ranges.source_count in
    let other = to_z-of_z w32 a.target_count c.ranges.target_count in
    let clear = simp (count, other) at c.in_default-refused_both.ensures in
    let first : c.unsigned_abs.result ≡ nat_abs a.source_count = simp count at c.unsigned_abs.ensures.value in
    let second : c.unsigned_abs-2.result ≡ nat_abs a.target_count = simp other at c.unsigned_abs-2.ensures.value in
    let why = simp (first, second, len, room, to_z-of_z w64 a.source_origin c.ranges.source_origin, to_z-of_z w64 a.target_origin c.ranges.target_origin) at c.in-Err-planned.ensures in
    copy_uncopied a.self.now a.source_count a.source_type.now a.source.now a.source_origin a.target_count a.target_type.now a.target.now a.target_origin old held there
    here c.in-Ok.both.0 c.in-Ok.both.1 c.in-Ok.ensures.0 c.in-Ok.ensures.1 clear c.in-Err-planned.stop why

pub returns-then-eq : goal.returns-then-eq
returns-then-eq c =
    let a = c.args in
    let (old, there, len, small) = c.in-Some.ensures in
    let (held, here, room, low) = c.in-Some-buffer_len.ensures in
    let from = c.in-Ok.both.0 in
    let onto = c.in-Ok.both.1 in
    let count = to_z-of_z w32 a.source_count c.ranges.source_count in
    let other = to_z-of_z w32 a.target_count c.ranges.target_count in
    let clear = simp (count, other) at c.in_default-refused_both.ensures in
    let first : c.unsigned_abs.result ≡ nat_abs a.source_count = simp count at c.unsigned_abs.ensures.value in
    let second : c.unsigned_abs-2.result ≡ nat_abs a.target_count = simp other at c.unsigned_abs-2.ensures.value in
    let copy = copy_between (side a.source_count a.source_type.now a.source.now a.source_origin) (side a.target_count a.target_type.now a.target.now a.target_origin) from onto old held in
    let made : c.in-Ok-planned.plan ≡ copy =
    simp (first, second, len, room, to_z-of_z w64 a.source_origin c.ranges.source_origin, to_z-of_z w64 a.target_origin c.ranges.target_origin) at c.in-Ok-planned.ensures.0 in
    copy_same a.self.now a.source_count a.source_type.now a.source.now a.source_origin a.target_count a.target_type.now a.target.now a.target_origin old held there
    here from onto c.in-Ok.ensures.0 c.in-Ok.ensures.1 clear (subst CanCopy made c.in-Ok-planned.ensures.1) ((bytes_eq-Decides a.source.now a.target.now).0 (sym c.eq.ensures ∙ c.if-eq.true))

pub returns : goal.returns
returns c =
    let a = c.args in
    let s = a.self.now in
    let (old, there, len, small) = c.in-Some.ensures in
    let (held, here, room, low) = c.in-Some-buffer_len.ensures in
    let from = c.in-Ok.both.0 in
    let onto = c.in-Ok.both.1 in
    let count = to_z-of_z w32 a.source_count c.ranges.source_count in
    let other = to_z-of_z w32 a.target_count c.ranges.target_count in
    let clear = simp (count, other) at c.in_default-refused_both.ensures in
    let first : c.unsigned_abs.result ≡ nat_abs a.source_count = simp count at c.unsigned_abs.ensures.value in
    let second : c.unsigned_abs-2.result ≡ nat_abs a.target_count = simp other at c.unsigned_abs-2.ensures.value in
    let copy = copy_between (side a.source_count a.source_type.now a.source.now a.source_origin) (side a.target_count a.target_type.now a.target.now a.target_origin) from onto old held in
    let made : c.in-Ok-planned.plan ≡ copy =
    simp (first, second, len, room, to_z-of_z w64 a.source_origin c.ranges.source_origin, to_z-of_z w64 a.target_origin c.ranges.target_origin) at c.in-Ok-planned.ensures.0 in
    let differ : ¬ (a.source.now ≡ a.target.now) = λ same. contrary c.eq.result c.if-eq.false (c.eq.ensures ∙ (bytes_eq-Decides a.source.now a.target.now).1 same) in
    outcome_of s (Copy a.source_count a.source_type.now a.source.now a.source_origin a.target_count a.target_type.now a.target.now a.target_origin)
    (Copied (length copy.source) (total Native copy.source)) (CopyBytes copy a.source.now a.target.now) _
    (copy_allowed s a.source_count a.source_type.now a.source.now a.source_origin a.target_count a.target_type.now a.target.now a.target_origin old held there here from
    onto c.in-Ok.ensures.0 c.in-Ok.ensures.1 clear (subst CanCopy made c.in-Ok-planned.ensures.1) differ)
    (copy_can s a.source_count a.source_type.now a.source.now a.source_origin a.target_count a.target_type.now a.target.now a.target_origin old held there here from
    onto c.in-Ok.ensures.0 c.in-Ok.ensures.1 clear differ)
    (copy_performs s a.source_count a.source_type.now a.source.now a.source_origin a.target_count a.target_type.now a.target.now a.target_origin old held there here from
    onto c.in-Ok.ensures.0 c.in-Ok.ensures.1 clear) refl
    (rw (c.in_ok-source.ensures.same, c.in_ok-target.ensures.same, c.elements.ensures, c.bytes.ensures, made) refl)
