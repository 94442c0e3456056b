use Rattle.std.proofs.Common.{◌≡◌, true, false, length, nat_abs, refl, sym, subst, ◌∙◌}
use Rattle.std.proofs.lemmas.Int.{to_z-of_z}
use Rattle.std.specs.Int.{w32, w64}
use mir.Val.{to_z, of_z}
use Rattle.std.specs.List.{list_any}
use Rattle.dt_map.specs.Elements.{elements, are_inside, Overlaps}
use Rattle.dt_reply.specs.declared.reply.Reply.TheVariants.{ReducedAll}
use Rattle.dt_script.specs.declared.command.Command.TheVariants.{Reduceall}
use Rattle.dt_type.specs.Datatype.{typemap_of}
use Rattle.dt_machine.specs.declared.outcome.Change.TheVariants.{ReduceRanks}
use Rattle.dt_machine.specs.Operation.{Gathers}
use Rattle.dt_machine.specs.Refusal.{elements_of, lies_outside, AreTooMany}
use Rattle.dt_machine.proofs.Folds.{ranks_withheld, target_outside, rank_outside, ranks_overlap, ranks_many, ranks_allowed, ranks_can, ranks_perform}
use Rattle.dt_machine.proofs.Outcomes.{outcome_of}
use Rattle.dt_machine.proofs.Reductions.{few_apart}
use Rattle.dt_machine.proofs.Rows.{contrary}
use Rattle.dt_machine.proofs.machine.Machine.reduce_all.Goals as goal

pub returns-in-Some-refused_count : goal.returns-in-Some-refused_count
returns-in-Some-refused_count c =
    let a = c.args in
    let (held, here, len, small) = c.in-Some.ensures in
    ranks_withheld a.self.now a.op a.how a.count a.ty.now a.origin a.target.now a.names.now held here (sym c.is_some_lost.ensures ∙ c.if-is_some_lost.false) c.in-Ok.kept
    c.in-Ok.ensures c.in-Some-refused_count.refusal (simp (to_z-of_z w32 a.count c.ranges.count) at c.in-Some-refused_count.ensures)

pub returns-then-not-span_inside : goal.returns-then-not-span_inside
returns-then-not-span_inside c =
    let a = c.args in
    let s = a.self.now in
    let (held, here, len, small) = c.in-Some.ensures in
    let kept = c.in-Ok.kept in
    let stand = sym c.is_some_lost.ensures ∙ c.if-is_some_lost.false in
    let count = to_z-of_z w32 a.count c.ranges.count in
    let origin = to_z-of_z w64 a.origin c.ranges.origin in
    let clear = simp count at c.in_default-refused_count.ensures in
    let copies : c.unsigned_abs-copies.result ≡ nat_abs a.count = simp count at c.unsigned_abs-copies.ensures.value in
    let es = elements_of kept a.count a.origin in
    target_outside s a.op a.how a.count a.ty.now a.origin a.target.now a.names.now held here stand kept c.in-Ok.ensures clear (simp (copies, len, origin) at (sym c.span_inside.ensures ∙ c.if-not-span_inside.true))

pub returns-then-is_one_outside : goal.returns-then-is_one_outside
returns-then-is_one_outside c =
    let a = c.args in
    let s = a.self.now in
    let (held, here, len, small) = c.in-Some.ensures in
    let kept = c.in-Ok.kept in
    let stand = sym c.is_some_lost.ensures ∙ c.if-is_some_lost.false in
    let count = to_z-of_z w32 a.count c.ranges.count in
    let origin = to_z-of_z w64 a.origin c.ranges.origin in
    let clear = simp count at c.in_default-refused_count.ensures in
    let copies : c.unsigned_abs-copies.result ≡ nat_abs a.count = simp count at c.unsigned_abs-copies.ensures.value in
    let es = elements_of kept a.count a.origin in
    rank_outside s a.op a.how a.count a.ty.now a.origin a.target.now a.names.now held here stand kept c.in-Ok.ensures clear (simp (copies, origin) at (sym c.is_one_outside.ensures ∙ c.if-is_one_outside.true))

pub returns-then-branch : goal.returns-then-branch
returns-then-branch c =
    let a = c.args in
    let s = a.self.now in
    let (held, here, len, small) = c.in-Some.ensures in
    let kept = c.in-Ok.kept in
    let stand = sym c.is_some_lost.ensures ∙ c.if-is_some_lost.false in
    let count = to_z-of_z w32 a.count c.ranges.count in
    let origin = to_z-of_z w64 a.origin c.ranges.origin in
    let clear = simp count at c.in_default-refused_count.ensures in
    let copies : c.unsigned_abs-copies.result ≡ nat_abs a.count = simp count at c.unsigned_abs-copies.ensures.value in
    let es = elements_of kept a.count a.origin in
    let into : are_inside (length held) es ≡ true = simp (copies, len, origin) at (sym c.span_inside.ensures ∙ c.if-not-span_inside.false) in
    let inside : list_any (lies_outside s es) a.names.now ≡ false = simp (copies, origin) at (sym c.is_one_outside.ensures ∙ c.if-is_one_outside.false) in
    let m = typemap_of kept.ty in
    let x = to_z w64 (of_z w64 a.origin) in
    let meet : Overlaps es =
    subst (λ o. Overlaps (elements m (nat_abs a.count) o)) origin
    (subst (λ n. Overlaps (elements m n x)) copies (c.in_ok-overlaps.ensures.0 c.if-branch.true))
    in
    ranks_overlap s a.op a.how a.count a.ty.now a.origin a.target.now a.names.now held here stand kept c.in-Ok.ensures clear into inside meet

pub returns-then-are_too_many : goal.returns-then-are_too_many
returns-then-are_too_many c =
    let a = c.args in
    let s = a.self.now in
    let (held, here, len, small) = c.in-Some.ensures in
    let kept = c.in-Ok.kept in
    let stand = sym c.is_some_lost.ensures ∙ c.if-is_some_lost.false in
    let count = to_z-of_z w32 a.count c.ranges.count in
    let origin = to_z-of_z w64 a.origin c.ranges.origin in
    let clear = simp count at c.in_default-refused_count.ensures in
    let copies : c.unsigned_abs-copies.result ≡ nat_abs a.count = simp count at c.unsigned_abs-copies.ensures.value in
    let es = elements_of kept a.count a.origin in
    let into : are_inside (length held) es ≡ true = simp (copies, len, origin) at (sym c.span_inside.ensures ∙ c.if-not-span_inside.false) in
    let inside : list_any (lies_outside s es) a.names.now ≡ false = simp (copies, origin) at (sym c.is_one_outside.ensures ∙ c.if-is_one_outside.false) in
    let m = typemap_of kept.ty in
    let x = to_z w64 (of_z w64 a.origin) in
    let apart : ¬ Overlaps es =
    λ over. contrary c.in_ok-overlaps.field-0 c.if-branch.false (c.in_ok-overlaps.ensures.1 (subst (λ n. Overlaps (elements m n x)) (sym copies)
    (subst (λ o. Overlaps (elements m (nat_abs a.count) o)) (sym origin) over)))
    in
    ranks_many s a.op a.how a.count a.ty.now a.origin a.target.now a.names.now held here stand kept c.in-Ok.ensures clear into inside apart ((c.are_too_many.ensures kept a.count a.origin refl copies).0 c.if-are_too_many.true)

pub element_count-elements-requires : goal.element_count-elements-requires
element_count-elements-requires c =
    let a = c.args in
    let s = a.self.now in
    let (held, here, len, small) = c.in-Some.ensures in
    let kept = c.in-Ok.kept in
    let stand = sym c.is_some_lost.ensures ∙ c.if-is_some_lost.false in
    let count = to_z-of_z w32 a.count c.ranges.count in
    let origin = to_z-of_z w64 a.origin c.ranges.origin in
    let clear = simp count at c.in_default-refused_count.ensures in
    let copies : c.unsigned_abs-copies.result ≡ nat_abs a.count = simp count at c.unsigned_abs-copies.ensures.value in
    let es = elements_of kept a.count a.origin in
    let into : are_inside (length held) es ≡ true = simp (copies, len, origin) at (sym c.span_inside.ensures ∙ c.if-not-span_inside.false) in
    let inside : list_any (lies_outside s es) a.names.now ≡ false = simp (copies, origin) at (sym c.is_one_outside.ensures ∙ c.if-is_one_outside.false) in
    let m = typemap_of kept.ty in
    let x = to_z w64 (of_z w64 a.origin) in
    let apart : ¬ Overlaps es =
    λ over. contrary c.in_ok-overlaps.field-0 c.if-branch.false (c.in_ok-overlaps.ensures.1 (subst (λ n. Overlaps (elements m n x)) (sym copies)
    (subst (λ o. Overlaps (elements m (nat_abs a.count) o)) (sym origin) over)))
    in
    record { few = rw copies (few_apart (typemap_of kept.ty) (nat_abs a.count) a.origin (length held) small into apart) }

pub returns : goal.returns
returns c =
    let a = c.args in
    let s = a.self.now in
    let (held, here, len, small) = c.in-Some.ensures in
    let kept = c.in-Ok.kept in
    let stand = sym c.is_some_lost.ensures ∙ c.if-is_some_lost.false in
    let count = to_z-of_z w32 a.count c.ranges.count in
    let origin = to_z-of_z w64 a.origin c.ranges.origin in
    let clear = simp count at c.in_default-refused_count.ensures in
    let copies : c.unsigned_abs-copies.result ≡ nat_abs a.count = simp count at c.unsigned_abs-copies.ensures.value in
    let es = elements_of kept a.count a.origin in
    let into : are_inside (length held) es ≡ true = simp (copies, len, origin) at (sym c.span_inside.ensures ∙ c.if-not-span_inside.false) in
    let inside : list_any (lies_outside s es) a.names.now ≡ false = simp (copies, origin) at (sym c.is_one_outside.ensures ∙ c.if-is_one_outside.false) in
    let m = typemap_of kept.ty in
    let x = to_z w64 (of_z w64 a.origin) in
    let apart : ¬ Overlaps es =
    λ over. contrary c.in_ok-overlaps.field-0 c.if-branch.false (c.in_ok-overlaps.ensures.1 (subst (λ n. Overlaps (elements m n x)) (sym copies)
    (subst (λ o. Overlaps (elements m (nat_abs a.count) o)) (sym origin) over)))
    in
    let few : ¬ AreTooMany (length a.names.now) a.count a.origin kept =
    λ many. contrary c.are_too_many.result c.if-are_too_many.false ((c.are_too_many.ensures kept a.count a.origin refl copies).1 many)
    in
    let ranks = c.in_ok-ranks.ranks in
    let merges = c.in_ok-merges.merges in
    let gathers : Gathers s (typemap_of kept.ty) (nat_abs a.count) a.origin a.names.now ranks = simp (copies, origin) at c.in_ok-ranks.ensures in
    let number : c.element_count-elements.result ≡ length es = simp copies at (c.element_count-elements.ensures a.origin) in
    outcome_of s (Reduceall a.op a.how a.count a.ty.now a.origin a.target.now a.names.now) (ReducedAll (length es) (length a.names.now))
    (ReduceRanks a.op ranks merges a.origin a.target.now) _ (ranks_allowed s a.op a.how a.count a.ty.now a.origin a.target.now a.names.now held here stand kept c.in-Ok.ensures clear into inside apart few)
    (ranks_can s a.op a.how a.count a.ty.now a.origin a.target.now a.names.now held here stand kept c.in-Ok.ensures clear into inside apart ranks merges gathers c.in_ok-merges.ensures)
    (ranks_perform s a.op a.how a.count a.ty.now a.origin a.target.now a.names.now held here stand kept c.in-Ok.ensures ranks merges gathers) refl (rw (c.in_ok-target.ensures.same, number, origin) refl)
