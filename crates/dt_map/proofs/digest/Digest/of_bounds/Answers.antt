use Rattle.std.proofs.Common.{◌∙◌}
use Rattle.dt_map.proofs.Digests.{digest-bounds}
use Rattle.dt_map.proofs.digest.Digest.of_bounds.Goals as goal

pub returns : goal.returns
returns c m same marks = digest-bounds c.args.bounds.now c.true_span.result c.wide.result c.requires c.true_span.ensures m same (c.wide.ensures ∙ marks)
