use Rattle.std.proofs.Common.{pos, ap, ◌∙◌}
use Rattle.std.proofs.lemmas.Int.{to_z-of_z}
use Rattle.std.specs.Int.{w64}
use Rattle.dt_rows.proofs.Filling.{filled_from_cut, filled_inside_one}
use Rattle.dt_rows.proofs.external.gather_cut.Goals as goal

pub returns-then-head-out : goal.returns-then-head-out
returns-then-head-out c =
    let start = to_z-of_z w64 c.args.start c.ranges.start in
    let size = to_z-of_z w64 c.from.result (record { sfits = c.from.type_inv }) in
    let next = to_z-of_z w64 c.place-next.result (record { sfits = c.place-next.type_inv }) in
    filled_from_cut c.args.kind c.args.buffer.now c.args.elements c.args.start c.requires.inside c.ext_size.result c.args.skip c.min-head.result _ _ _ c.args.out.now c.put_cut.new.out c.gather_leading.new.out
    c.requires.some c.requires.first c.ext_size.ensures c.min-head.ensures start (size ∙ c.from.ensures ∙ ap (λ n. pos n) c.size.ensures) (next ∙ c.place-next.ensures)
    c.put_cut.auto.out c.if-head-out.true c.put_cut.ensures c.gather_leading.ensures

pub returns-else-head-out : goal.returns-else-head-out
returns-else-head-out c =
    let start = to_z-of_z w64 c.args.start c.ranges.start in
    filled_inside_one c.args.kind c.args.buffer.now c.args.elements c.args.start c.requires.inside c.ext_size.result c.args.skip c.min-head.result _ c.args.out.now c.put_cut.new.out
    c.requires.some c.requires.first c.ext_size.ensures c.min-head.ensures start c.put_cut.auto.out c.if-head-out.false c.put_cut.ensures
