use Rattle.std.proofs.Common.{ℤ, ap, subst, ◌∙◌, arith}
use Rattle.std.proofs.lemmas.Int.{to_z-of_z}
use Rattle.std.specs.Int.{w64}
use mir.Val.{to_z, of_z}
use Rattle.dt_map.specs.Elements.{elements}
use Rattle.dt_type.specs.Datatype.{typemap_of}
use Rattle.dt_copy.specs.Matching.{DifferAt}
use Rattle.dt_copy.specs.Plan.{Copy, DifferFirst, copy_of}
use Rattle.dt_copy.specs.Side.{Reader, kinds_of}
use Rattle.dt_copy.proofs.Opened.{differ_first, few_copied, few_from, few_into, plan_between}
use Rattle.dt_copy.proofs.plan.CopyPlan.begin.Goals as goal

pub new-requires-clause-few : goal.new-requires-clause-few
new-requires-clause-few c = few_from _ c.in_ok-elements.ensures.enough c.requires.target

pub new-requires-2-clause-few : goal.new-requires-2-clause-few
new-requires-2-clause-few c = few_into _ c.in_ok-elements.ensures.enough c.requires.target

pub returns-in-Some-clause-refused : goal.returns-in-Some-clause-refused
returns-in-Some-clause-refused c =
    let ms = typemap_of c.args.source.now in
    let mt = typemap_of c.args.target.now in
    let x : ℤ = to_z w64 (of_z w64 c.args.source_origin) in
    let y : ℤ = to_z w64 (of_z w64 c.args.target_origin) in
    let kinds = ap (λ (r : Reader). kinds_of r.elements) c.in_ok-from.ensures in
    let others = ap (λ (r : Reader). kinds_of r.elements) c.in_ok-to.ensures in
    let byte = c.in-Some.byte in
    let differ = subst (λ ks. DifferAt (kinds_of (elements ms c.args.source_count x)) ks byte) others (subst (λ ks. DifferAt ks (kinds_of c.in_ok-to.to.elements) byte) kinds c.in-Some.ensures.first) in
    let found = differ_first ms mt c.args.source_count c.args.target_count c.args.source_len c.args.target_len x y c.in_ok-elements.ensures.enough byte c.whole_elements.result differ c.whole_elements.ensures in
    let at : ℤ → ℤ → Copy = λ x y. copy_of ms c.args.source_count x c.args.source_len mt c.args.target_count y c.args.target_len in
    subst (λ k. DifferFirst k c.whole_elements.result) (ap (λ o. at o y) (to_z-of_z w64 c.args.source_origin c.ranges.source_origin) ∙ ap (at c.args.source_origin) (to_z-of_z w64 c.args.target_origin c.ranges.target_origin)) found

pub overflow_cast-result : goal.overflow_cast-result
overflow_cast-result c =
    let few = few_copied _ c.in_ok-elements.ensures.enough c.requires.target in
    let all = c.in_ok-elements.ensures.number in
    record { fits = omega (arith, all, few) }

pub invariant_of-result : goal.invariant_of-result
invariant_of-result c =
    plan_between _ c.in_ok-from.from c.in_ok-to.to c.first_difference.new.from c.first_difference.new.to _ _ c.in_ok-elements.elements c.in_ok-elements.ensures.enough
    c.in_ok-elements.ensures.number c.in_ok-from.ensures c.in_ok-to.ensures c.in_default.ensures.first c.in_default.ensures.source c.in_default.ensures.target

pub returns-clause-possible : goal.returns-clause-possible
returns-clause-possible c = let plan = invariant_of-result c in plan.can
