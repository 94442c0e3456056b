use Rattle.std.proofs.Common.{◌∙◌, sym, subst, ap, ◌*◌, arith}
use Rattle.std.proofs.lemmas.Int.{ints}
use Rattle.dt_map.specs.Runs.{run}
use Rattle.dt_offsets.proofs.Spans.{both}
use Rattle.dt_tree.specs.Measure.{IsMeasure}
use Rattle.dt_tree.proofs.Measures.{measure_run, measure_ordered, measure_aligned, product_small}
use Rattle.dt_tree.proofs.measure.Measure.in_block.Goals as goal

pub returns-clause-value : goal.returns-clause-value
returns-clause-value c = λ es m.
    let copies = c.from.ensures in
    let short = c.requires.short in
    let whole = c.requires.whole in
    let small = product_small c.from.result c.extent.result (omega arith) c.extent.ensures.near in
    let placed = c.at.ensures.span ∙ both _ _ _ _ (omega (arith, ints)) (omega (arith, ints, small)) in
    subst (IsMeasure (run c.args.block es) c.at.result.span) (sym c.at.ensures.align)
    (measure_run es c.args.block (c.from.result * c.extent.result) c.extent.result c.args.self.span c.at.result.span c.args.self.align c.requires.some
    (c.extent.ensures.value es m) (ap (λ n. n * c.extent.result) c.from.ensures) placed m)

pub extent-requires : goal.extent-requires
extent-requires c =
    let whole = c.requires.whole in
    let aligned = measure_aligned whole.0 c.args.self.span c.args.self.align whole.1 in
    record { close = whole.2; ordered = measure_ordered whole.0 c.args.self.span c.args.self.align whole.1; aligned = aligned.0; few = aligned.1 }
