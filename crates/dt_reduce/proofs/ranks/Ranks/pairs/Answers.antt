use Rattle.std.proofs.Common.{ap, subst, ◌∙◌}
use Rattle.std.proofs.lemmas.Int.{to_z-of_z}
use Rattle.std.specs.Int.{w64}
use Rattle.dt_map.specs.Elements.{elements, Overlaps}
use Rattle.dt_type.specs.Datatype.{typemap_of}
use Rattle.dt_reduce.specs.Ranks.{Ranked, elements_at}
use Rattle.dt_reduce.proofs.ranks.Ranks.pairs.Goals as goal

pub new-requires-clause-apart : goal.new-requires-clause-apart
new-requires-clause-apart c over =
    let i = c.self.inside in
    c.requires.apart
    (subst Overlaps (ap (elements (typemap_of i.ty) i.count) (to_z-of_z w64 c.args.origin c.ranges.origin) ∙ ap (λ (r : Ranked). elements_at r c.args.origin) c.self.view_is) over)
