use Rattle.std.proofs.Common.{◌-◌, length, arith}
use Rattle.dt_normal.proofs.Cells.{trees_few}
use Rattle.dt_normal.proofs.Validity.{block_read}
use Rattle.dt_normal.proofs.Forming.{block_found}
use Rattle.dt_normal.proofs.form.block_at.Goals as goal

pub split_at-requires-clause-low : goal.split_at-requires-clause-low
split_at-requires-clause-low c =
    rw c.deref.ensures.value
    (trees_few c.args.w.now c.args.classes.now c.args.at.start (length c.args.classes.now - c.args.at.start) c.args.row.now.trees.items c.requires.light c.requires.few (omega (arith, c.requires.inside)) c.requires.row.trees)

pub returns : goal.returns
returns c =
    let block = block_read c.args.w.now c.args.classes.now c.args.at.start c.args.at.len c.index-copies.result.now c.args.row.now c.requires.row c.requires.some c.requires.inside c.index-copies.ensures in
    let found = rw c.deref.ensures.value at c.split_at.ensures in
    rw c.unwrap_or.ensures (block_found c.args.w.now c.args.classes.now c.args.at.start c.args.at.len c.index-copies.result.now c.args.row.now c.split_at.result c.requires.row c.requires.inside c.requires.some block found)
