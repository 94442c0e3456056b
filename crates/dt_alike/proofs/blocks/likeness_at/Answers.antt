use Rattle.std.proofs.Common.{arith}
use Rattle.dt_alike.proofs.Knowing.{row_at, likeness_in}
use Rattle.dt_alike.proofs.blocks.likeness_at.Goals as goal

pub index-requires : goal.index-requires
index-requires c =
    let row = row_at c.args.entries.now c.args.rows.now c.args.start c.index-rows-entries.result c.requires.rows (omega arith) c.requires.start c.index-rows-entries.is in
    omega (arith, row.each)

pub returns : goal.returns
returns c =
    let row = row_at c.args.entries.now c.args.rows.now c.args.start c.index-rows-entries.result c.requires.rows (omega arith) c.requires.start c.index-rows-entries.is in
    likeness_in c.args.entries.now c.args.start c.args.len c.index-rows-entries.result.items c.index.result.now row c.requires.some c.requires.inside c.index.ensures
