use mir.Syntax.{w64}
use mir.Val.{SFits}
use Rattle.std.proofs.Common.{◌≡◌, ◌∙◌, ap, get_or, pos, Some, drop, ◌+◌, rules}
use Rattle.std.proofs.lemmas.Int.{to_z-of_z}
use Rattle.dt_offsets.specs.Span.{reach_of, joined_marks}
use Rattle.dt_offsets.proofs.Spans.{both}
use Rattle.dt_tree.proofs.Spans.{around_more, around_all, same128}
use Rattle.dt_tree.proofs.span.around.Goals as goal

pub places-preserved : goal.places-preserved
places-preserved c =
    let item = get_or c.args.places.now c.places.place-index (pos 0) in
    let fits : SFits w64 item = search rules in
    let x : c.from.result ≡ item = c.from.ensures ∙ to_z-of_z w64 item fits in
    let back = same128 c.from.result c.from.type_inv in
    ap (λ s. joined_marks s (reach_of (drop (c.places.place-index + 1) c.args.places.now))) c.joined.ensures
    ∙ around_more c.args.places.now c.places.place-index c.from.result c.places.span (Some c.point.result) c.places-test.true x (c.point.ensures ∙ both _ _ _ _ back back) c.places.invariant

pub returns : goal.returns
returns c = around_all c.args.places.now c.places.place-index c.places.span c.places-test.false c.places.invariant
