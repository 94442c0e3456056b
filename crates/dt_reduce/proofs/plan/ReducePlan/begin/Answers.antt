use Rattle.std.proofs.Common.{sym, subst, ◌∙◌}
use Rattle.std.proofs.lemmas.Bool.{false≢true}
use Rattle.std.proofs.lemmas.Int.{to_z-of_z}
use Rattle.std.specs.Int.{w64}
use mir.Val.{to_z, of_z}
use Rattle.dt_type.specs.Datatype.{typemap_of}
use Rattle.dt_reduce.specs.Plan.{CanReduce}
use Rattle.dt_reduce.proofs.Planning.{seen_is, can_reduce}
use Rattle.dt_reduce.proofs.plan.ReducePlan.begin.Goals as goal

pub returns-clause-plan : goal.returns-clause-plan
returns-clause-plan c =
    let m = typemap_of c.args.ty.now in
    seen_is m c.args.count c.in_ok-pairs.pairs (to_z w64 (of_z w64 c.args.source_origin)) c.args.source_origin (to_z w64 (of_z w64 c.args.target_origin)) c.args.target_origin c.args.source_len c.args.target_len
    (to_z-of_z w64 c.args.source_origin c.ranges.source_origin) (to_z-of_z w64 c.args.target_origin c.ranges.target_origin) c.in_ok-pairs.ensures

pub returns-clause-possible : goal.returns-clause-possible
returns-clause-possible c =
    let m = typemap_of c.args.ty.now in
    let plan =
    seen_is m c.args.count c.in_ok-pairs.pairs (to_z w64 (of_z w64 c.args.source_origin)) c.args.source_origin (to_z w64 (of_z w64 c.args.target_origin)) c.args.target_origin c.args.source_len c.args.target_len
    (to_z-of_z w64 c.args.source_origin c.ranges.source_origin) (to_z-of_z w64 c.args.target_origin c.ranges.target_origin) c.in_ok-pairs.ensures in
    subst CanReduce (sym plan)
    (can_reduce m c.args.count (to_z w64 (of_z w64 c.args.source_origin)) c.args.source_origin (to_z w64 (of_z w64 c.args.target_origin)) c.args.target_origin c.args.source_len c.args.target_len
    (to_z-of_z w64 c.args.source_origin c.ranges.source_origin) (to_z-of_z w64 c.args.target_origin c.ranges.target_origin)
    (sym c.span_inside.ensures ∙ c.if-not-span_inside.false) (sym c.span_inside-else-not-span_inside.ensures ∙ c.if-not-span_inside-2.false)
    (λ over. false≢true (sym c.if-branch.false ∙ c.in_ok-overlaps.ensures.1 over)))
