use Rattle.dt_normal.proofs.Validity.{tree_read}
use Rattle.dt_normal.proofs.greatest.tree_cost.Goals as goal

pub returns : goal.returns
returns c = tree_read c.args.w.now c.args.classes.now c.args.start c.args.len c.index.result.now c.row_at.result.now c.row_at.ensures c.requires.some c.requires.inside c.index.ensures
