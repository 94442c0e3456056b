use Rattle.std.proofs.Common.{◌≡◌, Err, sym, ap, subst, ◌∙◌}
use Rattle.std.proofs.lemmas.Int.{to_z-of_z}
use Rattle.std.specs.Int.{w64}
use mir.Val.{to_z, of_z}
use Rattle.dt_map.specs.Elements.{elements, are_inside, Overlaps}
use Rattle.dt_type.specs.Datatype.{typemap_of}
use Rattle.dt_reduce.specs.Ranks.{Ranked, elements_at}
use Rattle.dt_reduce.proofs.Setting.{not_outside}
use Rattle.dt_reduce.proofs.ranks.Ranks.target.Goals as goal

pub returns-in-Ok-clause-possible : goal.returns-in-Ok-clause-possible
returns-in-Ok-clause-possible c =
    let i = c.self.inside in
    let m = typemap_of i.ty in
    let same : elements m i.count (to_z w64 (of_z w64 c.args.origin)) ≡ elements_at c.args.self.now c.args.origin =
    ap (elements m i.count) (to_z-of_z w64 c.args.origin c.ranges.origin) ∙ ap (λ (r : Ranked). elements_at r c.args.origin) c.self.view_is in (
      sym (ap (are_inside c.args.len) same) ∙ not_outside (are_inside c.args.len (elements m i.count (to_z w64 (of_z w64 c.args.origin)))) (λ out. (cc (c.in-Ok.ensures.outside.1 out))),
      λ over. c.in-Ok.ensures.apart (subst Overlaps (sym (c.in-Ok.ensures.elements ∙ same)) over),
    )

pub returns-in-Err-Overlap-clause-refused : goal.returns-in-Err-Overlap-clause-refused
returns-in-Err-Overlap-clause-refused c =
    let i = c.self.inside in
    let m = typemap_of i.ty in
    let same : elements m i.count (to_z w64 (of_z w64 c.args.origin)) ≡ elements_at c.args.self.now c.args.origin =
    ap (elements m i.count) (to_z-of_z w64 c.args.origin c.ranges.origin) ∙ ap (λ (r : Ranked). elements_at r c.args.origin) c.self.view_is in
    let told = c.in-Err-Overlap.ensures.overlap (ap Err c.in-Err-Overlap.field-0-is) in (
      sym (ap (are_inside c.args.len) same) ∙ told.0,
      subst Overlaps same told.1,
    )
