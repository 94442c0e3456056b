use mir.Syntax.{w64}
use Rattle.std.proofs.Common.{◌∙◌, ap, arith}
use Rattle.std.proofs.lemmas.Int.{to_z-of_z}
use Rattle.dt_map.proofs.Seats.{length-even}
use Rattle.dt_map.specs.Runs.{placed_at, even, run}
use Rattle.dt_offsets.specs.Span.{reach_of}
use Rattle.dt_tree.proofs.Measures.{short_measure, measure_blocks}
use Rattle.dt_tree.proofs.measure.in_vector.Goals as goal

pub returns : goal.returns
returns c = λ es m.
    let step = to_z-of_z w64 c.args.stride c.ranges.stride in
    let reach = c.evenly.ensures.value ∙ ap (λ x. reach_of (even c.args.count x)) step in
    short_measure (placed_at (even c.args.count c.args.stride) (run c.args.block es)) c.at.result c.short.result c.short.ensures
    (measure_blocks (even c.args.count c.args.stride) c.args.block es c.evenly.result c.in_block.result.span c.at.result.span c.in_block.result.align c.at.result.align
    (omega (arith, c.requires.turns, length-even c.args.count c.args.stride)) reach c.at.ensures.span c.at.ensures.align (c.in_block.ensures.value es m))
