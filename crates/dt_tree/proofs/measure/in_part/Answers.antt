use mir.Syntax.{w64}
use Rattle.std.proofs.Common.{◌∙◌}
use Rattle.std.proofs.lemmas.Int.{to_z-of_z}
use Rattle.dt_map.specs.Runs.{run}
use Rattle.dt_offsets.proofs.Spans.{both}
use Rattle.dt_tree.proofs.Measures.{measure_shifted}
use Rattle.dt_tree.proofs.Spans.{same128}
use Rattle.dt_tree.proofs.measure.in_part.Goals as goal

pub returns : goal.returns
returns c = λ es m.
    let at = same128 c.from.result c.from.type_inv ∙ (c.from.ensures ∙ to_z-of_z w64 c.args.disp c.ranges.disp) in
    measure_shifted c.args.disp (run c.args.block es) c.point.result c.in_block.result.span c.at.result.span c.in_block.result.align c.at.result.align
    (c.point.ensures ∙ both _ _ _ _ at at) c.at.ensures.span c.at.ensures.align (c.in_block.ensures.value es m)
