use Rattle.std.proofs.Common.{◌∙◌, ap, pos, ◌+◌}
use Rattle.dt_map.specs.Numbers.{padding}
use Rattle.dt_tree.proofs.Measures.{measure_extent}
use Rattle.dt_tree.proofs.measure.Measure.extent.Goals as goal

pub returns-clause-value : goal.returns-clause-value
returns-clause-value c = λ es m.
    let far = c.width-far.result in
    ap (λ a. pos (far + padding far a)) c.from-align.ensures ∙ measure_extent es c.args.self.now.span c.args.self.now.align far m c.requires.ordered c.width-far.ensures
