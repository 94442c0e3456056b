use Rattle.std.proofs.Common.{pos, ap, ◌∙◌}
use Rattle.std.proofs.lemmas.Int.{to_z-of_z}
use Rattle.std.specs.Int.{w64}
use Rattle.dt_rows.proofs.Filling.{filled_with_cut, filled_without_cut}
use Rattle.dt_rows.proofs.external.gather_leading.Goals as goal

pub returns-then-done-out : goal.returns-then-done-out
returns-then-done-out c =
    let start = to_z-of_z w64 c.args.start c.ranges.start in
    let size = to_z-of_z w64 c.from-size.result (record { sfits = c.from-size.type_inv }) in
    let at = to_z-of_z w64 c.place.result (record { sfits = c.place.type_inv }) in
    filled_with_cut c.args.kind c.args.buffer.now c.args.elements c.args.start c.requires.inside c.ext_size-ext.result _ _ _ c.args.out.now c.gather_turned.new.out c.put_cut.new.out
    c.ext_size-ext.ensures start (size ∙ c.from-size.ensures ∙ ap (λ n. pos n) c.size.ensures) c.gather_turned.ensures c.gather_turned.auto.out
    c.if-done-out.true c.requires.room c.put_cut.ensures (at ∙ c.place.ensures)

pub returns-else-done-out : goal.returns-else-done-out
returns-else-done-out c =
    let start = to_z-of_z w64 c.args.start c.ranges.start in
    let size = to_z-of_z w64 c.from-size.result (record { sfits = c.from-size.type_inv }) in
    filled_without_cut c.args.kind c.args.buffer.now c.args.elements c.args.start c.requires.inside c.ext_size-ext.result _ _ c.args.out.now c.gather_turned.new.out
    c.ext_size-ext.ensures start (size ∙ c.from-size.ensures ∙ ap (λ n. pos n) c.size.ensures) c.gather_turned.ensures c.gather_turned.auto.out
    c.if-done-out.false c.requires.room
