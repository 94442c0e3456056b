use Rattle.std.proofs.Common.{◌+◌, ap, ◌∙◌, max, take, arith}
use Rattle.dt_kinds.proofs.Table.{native_size-le}
use Rattle.dt_map.specs.Span.{entry_span}
use Rattle.dt_map.proofs.Extremes.{alignment-le}
use Rattle.dt_alike.specs.Step.{entry_at}
use Rattle.dt_alike.proofs.Growing.{within, grown_span, one_grown, front_is}
use Rattle.dt_alike.proofs.extents.extents.Goals as goal

pub natural_extent-requires-clause-span : goal.natural_extent-requires-clause-span
natural_extent-requires-clause-span c =
    let entry = entry_span (entry_at c.args.entries.now c.entries.entry-index) in
    let joined = front_is c.entries.span c.entry_span-next.result c.unwrap_or-front.result c.joined_spans.result entry c.joined_spans.ensures
    c.unwrap_or-front.ensures c.entry_span-next.ensures in
    within c.args.entries.now (c.entries.entry-index + 1) c.unwrap_or-front.result c.requires
    (grown_span c.args.entries.now c.entries.entry-index c.unwrap_or-front.result c.entries.span c.entries.align c.entries.extents.items c.entries-test.true c.entries.invariant joined)

pub natural_extent-requires-clause-few : goal.natural_extent-requires-clause-few
natural_extent-requires-clause-few c =
    omega (arith, c.max-align.ensures, c.size.ensures, c.entries.invariant.aligns, alignment-le (take c.entries.entry-index c.args.entries.now), native_size-le (entry_at c.args.entries.now c.entries.entry-index).kind)

pub entries-preserved : goal.entries-preserved
entries-preserved c =
    let entry = entry_span (entry_at c.args.entries.now c.entries.entry-index) in
    let joined = front_is c.entries.span c.entry_span-next.result c.unwrap_or-front.result c.joined_spans.result entry c.joined_spans.ensures
    c.unwrap_or-front.ensures c.entry_span-next.ensures in
    rw c.in_ok-push.ensures.items
    (one_grown c.args.entries.now c.entries.entry-index c.unwrap_or-front.result c.entries.span c.entries.align c.max-align.result c.natural_extent.result c.entries.extents.items
    c.entries-test.true c.entries.invariant joined (c.max-align.ensures ∙ ap (max c.entries.align) c.size.ensures) c.natural_extent.ensures)
