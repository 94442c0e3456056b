use Rattle.std.proofs.Common.{◌≡◌, ◌∙◌, sym, ap, subst, take}
use Rattle.dt_type.specs.declared.datatype.Seen.{Seen}
use Rattle.dt_type.specs.declared.shape.ShapePartOf.{ShapePartOf}
use Rattle.dt_type.specs.Conditions.{IsShapePart}
use Rattle.dt_map.specs.Digest.{capped_sums, digest_of}
use Rattle.dt_map.specs.Summary.{joined, copied}
use Rattle.dt_offsets.specs.Reach.{reach}
use Rattle.dt_type.specs.Shape.{placed_parts}
use Rattle.dt_offsets.specs.Offsets.{row_offsets}
use Rattle.dt_type.proofs.Digests.{digest-part}
use Rattle.dt_offsets.proofs.NearNumbers.{all_at}
use Rattle.dt_offsets.proofs.Products.{factor_back}
use Rattle.dt_type.proofs.digest.of_parts.Goals as goal

pub loop-part-preserved : goal.loop-part-preserved
loop-part-preserved c =
    let p : ShapePartOf Seen = c.part-item.result in
    let i = c.loop-part.part-index in
    let part : IsShapePart p = subst IsShapePart (sym c.part-item.is) (all_at IsShapePart c.args.parts.now i p c.requires c.loop-part-test.true) in
    let first = factor_back p.first part.first in
    let step = factor_back p.step part.step in
    let value = c.row_reach-reach.ensures.value in
    let row : c.row_reach-reach.result ≡ reach (row_offsets p.first p.copies p.step) = cc in
    let before = digest_of (placed_parts (take i c.args.parts.now)) in
    let next = digest-part c.args.parts.now i p p c.loop-part-test.true c.part-item.is in
    let offsets = reach (row_offsets p.first p.copies p.step) in
    c.joined-digest.ensures
    ∙ ap (λ d. capped_sums (joined d c.copied.result)) c.loop-part.invariant
    ∙ ap (λ d. capped_sums (joined before d)) (c.copied.ensures ∙ ap (λ r. capped_sums (copied r.span r.copies c.of_type.result)) row ∙ ap (λ d. capped_sums (copied offsets.span offsets.copies d)) c.of_type.ensures.value)
    ∙ sym next
