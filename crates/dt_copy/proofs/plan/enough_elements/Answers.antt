use Rattle.std.proofs.Common.{◌≤◌, ℤ, length, sym, ap, subst, ◌∙◌, arith}
use Rattle.std.proofs.lemmas.Bool.{false≢true}
use Rattle.std.proofs.lemmas.Int.{to_z-of_z}
use Rattle.std.specs.Int.{w64}
use mir.Val.{to_z, of_z}
use Rattle.dt_map.specs.Elements.{elements, Overlaps}
use Rattle.dt_type.specs.Datatype.{typemap_of}
use Rattle.dt_copy.specs.Plan.{Copy, AreEnough, copy_of}
use Rattle.dt_copy.proofs.Opened.{are_enough}
use Rattle.dt_copy.proofs.plan.enough_elements.Goals as goal

pub returns-clause-enough : goal.returns-clause-enough
returns-clause-enough c =
    let ms = typemap_of c.args.source.now in
    let mt = typemap_of c.args.target.now in
    let x : ℤ = to_z w64 (of_z w64 c.args.source_origin) in
    let y : ℤ = to_z w64 (of_z w64 c.args.target_origin) in
    let from_inside = sym c.span_inside.ensures ∙ c.if-not-span_inside.false in
    let to_inside = sym c.span_inside-2.ensures ∙ c.if-not-span_inside-2.false in
    let apart : Overlaps (elements mt c.args.target_count y) → ⊥ = λ over. false≢true (sym c.if-branch.false ∙ c.in_ok-overlaps.ensures.1 over) in
    let some = c.number_of_elements-elements.ensures x in
    let most = c.number_of_elements.ensures y in
    let no = c.if-elements-number_of_elements.false in
    let fewer : length (elements ms c.args.source_count x) ≤ length (elements mt c.args.target_count y) = omega (arith, some, most, no) in
    let enough = are_enough ms mt c.args.source_count c.args.target_count c.args.source_len c.args.target_len x y from_inside to_inside apart fewer in
    let at : ℤ → ℤ → Copy = λ x y. copy_of ms c.args.source_count x c.args.source_len mt c.args.target_count y c.args.target_len in
    subst AreEnough (ap (λ o. at o y) (to_z-of_z w64 c.args.source_origin c.ranges.source_origin) ∙ ap (at c.args.source_origin) (to_z-of_z w64 c.args.target_origin c.ranges.target_origin)) enough
