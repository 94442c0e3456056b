use mir.Syntax.{w128}
use Rattle.std.proofs.Common.{◌∙◌, ap, subst, reverse, take}
use Rattle.std.proofs.lemmas.Int.{to_z-of_z}
use Rattle.std.proofs.lemmas.Result.{err_from_is_err_and}
use Rattle.dt_kinds.specs.Displacement.{FitsDisp}
use Rattle.dt_array.proofs.Wrapping.{narrowed, too_wide, too_wide_fault, span_in, turns_step, span_step, whole}
use Rattle.dt_array.proofs.nest.around.Goals as goal

pub returns-in_err-unit : goal.returns-in_err-unit
returns-in_err-unit c =
    let p = err_from_is_err_and c.from_residual.result c.from_residual.ensures.1 in
    let extent = to_z-of_z w128 c.args.extent c.ranges.extent in
    let dims = c.args.dims.now in
    let span = c.loop-dim.invariant.span ∙ ap (λ x. span_in x (take c.loop-dim.dim-index dims)) extent in
    rw (p.1, p.2)
    (too_wide_fault c.args.extent (reverse dims) _ c.in_err-unit.ensures.0
    (too_wide c.args.extent dims c.requires c.loop-dim.dim-index (subst (λ x. ¬ FitsDisp x) span c.in_err-unit.ensures.1)))

pub loop-dim-preserved : goal.loop-dim-preserved
loop-dim-preserved c =
    let dims = c.args.dims.now in
    let unit = narrowed _ _ c.in_ok-unit.ensures in
    record {
      turns = turns_step _ dims c.loop-dim.dim-index _ c.loop-dim-test.true _ _ _ _ _ c.loop-dim.invariant.turns c.loop-dim.invariant.span unit c.turns_of.ensures c.in_ok-push.ensures.items;
      span =
          to_z-of_z w128 c.units-span.result (record { sfits = c.units-span.type_inv })
          ∙ span_step _ dims c.loop-dim.dim-index _ c.loop-dim-test.true _ _ _ c.loop-dim.invariant.span unit c.units-span.ensures;
    }

pub returns-in_err-narrow : goal.returns-in_err-narrow
returns-in_err-narrow c =
    let p = err_from_is_err_and c.from_residual-in_err-narrow.result c.from_residual-in_err-narrow.ensures.1 in
    let extent = to_z-of_z w128 c.args.extent c.ranges.extent in
    let dims = c.args.dims.now in
    let span = c.loop-dim.invariant.span ∙ ap (λ x. span_in x (take c.loop-dim.dim-index dims)) extent in
    rw (p.1, p.2)
    (too_wide_fault c.args.extent (reverse dims) _ c.in_err-narrow.ensures.0
    (too_wide c.args.extent dims c.requires c.loop-dim.dim-index (subst (λ x. ¬ FitsDisp x) span c.in_err-narrow.ensures.1)))

pub returns : goal.returns
returns c =
    let extent = to_z-of_z w128 c.args.extent c.ranges.extent in
    whole _ _ extent c.args.dims.now c.loop-dim.dim-index _ _ _ _ c.loop-dim.invariant.turns c.loop-dim.invariant.span c.loop-dim-test.false
    (c.from_vec.ensures ∙ c.reverse.ensures.items) (narrowed _ _ c.in_ok-narrow.ensures) c.in_ok-narrow.ensures.1
