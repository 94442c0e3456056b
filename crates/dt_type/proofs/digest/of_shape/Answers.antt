use Rattle.std.proofs.Common.{◌∙◌, sym, ap}
use Rattle.dt_map.specs.Digest.{capped_sums, digest_of}
use Rattle.dt_map.specs.Summary.{copied}
use Rattle.dt_map.proofs.Digests.{digest-copies}
use Rattle.dt_offsets.specs.Offsets.{grid_offsets, spot_offsets}
use Rattle.dt_offsets.specs.Reach.{reach}
use Rattle.dt_type.specs.Datatype.{typemap_of}
use Rattle.dt_type.specs.Shape.{placed_by}
use Rattle.dt_type.proofs.ShapeNumbers.{read_grid}
use Rattle.dt_type.proofs.digest.of_shape.Goals as goal

pub grid_reach-requires-clause-turns : goal.grid_reach-requires-clause-turns
grid_reach-requires-clause-turns c = (read_grid c.args.shape.now c.as_slice.result.now c.in-Grid.turns c.in-Grid.old c.requires c.in-Grid.is c.as_slice.ensures).0

pub grid_reach-requires-clause-near : goal.grid_reach-requires-clause-near
grid_reach-requires-clause-near c = (read_grid c.args.shape.now c.as_slice.result.now c.in-Grid.turns c.in-Grid.old c.requires c.in-Grid.is c.as_slice.ensures).1

pub returns-in-Grid : goal.returns-in-Grid
returns-in-Grid c =
    let shape = ap (λ s. digest_of (placed_by s)) c.in-Grid.is in
    let copies = digest-copies (grid_offsets c.in-Grid.turns) (typemap_of c.in-Grid.old) in
    let offsets = reach (grid_offsets c.in-Grid.turns) in
    c.copied.ensures
    ∙ ap (λ r. capped_sums (copied r.span r.copies c.of_type.result)) (c.grid_reach.ensures.value ∙ ap (λ ts. reach (grid_offsets ts)) c.as_slice.ensures)
    ∙ ap (λ s. capped_sums (copied offsets.span offsets.copies s)) c.of_type.ensures.value
    ∙ sym copies
    ∙ sym shape

pub returns-in-Each : goal.returns-in-Each
returns-in-Each c =
    let shape = ap (λ s. digest_of (placed_by s)) c.in-Each.is in
    let copies = digest-copies (spot_offsets c.in-Each.spots) (typemap_of c.in-Each.old) in
    let offsets = reach (spot_offsets c.in-Each.spots) in
    c.copied-in-Each.ensures
    ∙ ap (λ r. capped_sums (copied r.span r.copies c.of_type-in-Each.result)) (c.spots_reach.ensures.value ∙ ap (λ ss. reach (spot_offsets ss)) c.as_slice-in-Each.ensures)
    ∙ ap (λ s. capped_sums (copied offsets.span offsets.copies s)) c.of_type-in-Each.ensures.value
    ∙ sym copies
    ∙ sym shape
