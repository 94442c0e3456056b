use Rattle.std.proofs.Common.{◌≡◌, length, nat_abs, refl, sym, subst, ◌∙◌}
use Rattle.std.proofs.lemmas.Int.{to_z-of_z}
use Rattle.std.proofs.lemmas.Slice.Eq.{bytes_eq-Decides}
use Rattle.std.specs.Int.{w32, w64}
use Rattle.dt_reduce.specs.Plan.{CanReduce}
use Rattle.dt_reply.specs.declared.reply.Reply.TheVariants.{Reduced}
use Rattle.dt_script.specs.declared.command.Command.TheVariants.{Reduce}
use Rattle.dt_type.specs.Datatype.{typemap_of}
use Rattle.dt_machine.specs.declared.outcome.Change.TheVariants.{ReduceBytes}
use Rattle.dt_machine.specs.Sides.{side, reduction_between}
use Rattle.dt_machine.proofs.Outcomes.{outcome_of}
use Rattle.dt_machine.proofs.Reductions.{count_withheld, few_apart, reduce_unreduced, reduce_same, reduce_allowed, reduce_can, reduce_performs}
use Rattle.dt_machine.proofs.Rows.{contrary}
use Rattle.dt_machine.proofs.machine.Machine.reduce.Goals as goal

pub returns-in-Some-refused_count : goal.returns-in-Some-refused_count
returns-in-Some-refused_count c =
    let a = c.args in
    let (old, there, len, small) = c.in-Some.ensures in
    let (held, here, room, low) = c.in-Some-buffer_len.ensures in
    count_withheld a.self.now a.op a.count a.ty.now a.source.now a.source_origin a.target.now a.target_origin old held there here c.in-Ok.kept c.in-Ok.ensures
    c.in-Some-refused_count.refusal (simp (to_z-of_z w32 a.count c.ranges.count) at c.in-Some-refused_count.ensures)

pub returns-in-Err-planned : goal.returns-in-Err-planned
returns-in-Err-planned c =
    let a = c.args in
    let (old, there, len, small) = c.in-Some.ensures in
    let (held, here, room, low) = c.in-Some-buffer_len.ensures in
    let count = to_z-of_z w32 a.count c.ranges.count in
    let clear = simp count at c.in_default-refused_count.ensures in
    let copies : c.unsigned_abs-copies.result ≡ nat_abs a.count = simp count at c.unsigned_abs-copies.ensures.value in
    let why = simp (copies, len, room, to_z-of_z w64 a.source_origin c.ranges.source_origin, to_z-of_z w64 a.target_origin c.ranges.target_origin) at c.in-Err-planned.ensures in
    reduce_unreduced a.self.now a.op a.count a.ty.now a.source.now a.source_origin a.target.now a.target_origin old held there here c.in-Ok.kept c.in-Ok.ensures clear
    c.in-Err-planned.stop why

pub returns-then-eq : goal.returns-then-eq
returns-then-eq c =
    let a = c.args in
    let (old, there, len, small) = c.in-Some.ensures in
    let (held, here, room, low) = c.in-Some-buffer_len.ensures in
    let kept = c.in-Ok.kept in
    let count = to_z-of_z w32 a.count c.ranges.count in
    let clear = simp count at c.in_default-refused_count.ensures in
    let copies : c.unsigned_abs-copies.result ≡ nat_abs a.count = simp count at c.unsigned_abs-copies.ensures.value in
    let plan = reduction_between (side a.count a.ty.now a.source.now a.source_origin) (side a.count a.ty.now a.target.now a.target_origin) kept old held in
    let made : c.in-Ok-planned.plan ≡ plan =
    simp (copies, len, room, to_z-of_z w64 a.source_origin c.ranges.source_origin, to_z-of_z w64 a.target_origin c.ranges.target_origin) at c.in-Ok-planned.ensures.0 in
    reduce_same a.self.now a.op a.count a.ty.now a.source.now a.source_origin a.target.now a.target_origin old held there here kept c.in-Ok.ensures clear
    (subst CanReduce made c.in-Ok-planned.ensures.1) ((bytes_eq-Decides a.source.now a.target.now).0 (sym c.eq.ensures ∙ c.if-eq.true))

pub element_count-elements-requires : goal.element_count-elements-requires
element_count-elements-requires c =
    let a = c.args in
    let (old, there, len, small) = c.in-Some.ensures in
    let (held, here, room, low) = c.in-Some-buffer_len.ensures in
    let kept = c.in-Ok.kept in
    let count = to_z-of_z w32 a.count c.ranges.count in
    let copies : c.unsigned_abs-copies.result ≡ nat_abs a.count = simp count at c.unsigned_abs-copies.ensures.value in
    let plan = reduction_between (side a.count a.ty.now a.source.now a.source_origin) (side a.count a.ty.now a.target.now a.target_origin) kept old held in
    let made : c.in-Ok-planned.plan ≡ plan =
    simp (copies, len, room, to_z-of_z w64 a.source_origin c.ranges.source_origin, to_z-of_z w64 a.target_origin c.ranges.target_origin) at c.in-Ok-planned.ensures.0 in
    let can = subst CanReduce made c.in-Ok-planned.ensures.1 in
    let few = few_apart (typemap_of kept.ty) (nat_abs a.count) a.target_origin (length held) low can.inside.target can.apart in
    record { few = rw copies few }

pub returns : goal.returns
returns c =
    let a = c.args in
    let s = a.self.now in
    let (old, there, len, small) = c.in-Some.ensures in
    let (held, here, room, low) = c.in-Some-buffer_len.ensures in
    let kept = c.in-Ok.kept in
    let count = to_z-of_z w32 a.count c.ranges.count in
    let clear = simp count at c.in_default-refused_count.ensures in
    let copies : c.unsigned_abs-copies.result ≡ nat_abs a.count = simp count at c.unsigned_abs-copies.ensures.value in
    let plan = reduction_between (side a.count a.ty.now a.source.now a.source_origin) (side a.count a.ty.now a.target.now a.target_origin) kept old held in
    let made : c.in-Ok-planned.plan ≡ plan =
    simp (copies, len, room, to_z-of_z w64 a.source_origin c.ranges.source_origin, to_z-of_z w64 a.target_origin c.ranges.target_origin) at c.in-Ok-planned.ensures.0 in
    let differ : ¬ (a.source.now ≡ a.target.now) = λ same. contrary c.eq.result c.if-eq.false (c.eq.ensures ∙ (bytes_eq-Decides a.source.now a.target.now).1 same) in
    let number : c.element_count-elements.result ≡ length plan.target = simp copies at (c.element_count-elements.ensures a.target_origin) in
    outcome_of s (Reduce a.op a.count a.ty.now a.source.now a.source_origin a.target.now a.target_origin) (Reduced (length plan.target))
    (ReduceBytes a.op plan a.source.now a.target.now) _
    (reduce_allowed s a.op a.count a.ty.now a.source.now a.source_origin a.target.now a.target_origin old held there here kept c.in-Ok.ensures clear
    (subst CanReduce made c.in-Ok-planned.ensures.1) differ)
    (reduce_can s a.op a.count a.ty.now a.source.now a.source_origin a.target.now a.target_origin old held there here kept c.in-Ok.ensures differ)
    (reduce_performs s a.op a.count a.ty.now a.source.now a.source_origin a.target.now a.target_origin old held there here kept c.in-Ok.ensures) refl
    (rw (c.in_ok-source.ensures.same, c.in_ok-target.ensures.same, number, made) refl)
