use Rattle.std.proofs.Common.{◌+◌, ◌≤◌, length, arith}
use Rattle.dt_normal.proofs.Cells.{block_few}
use Rattle.dt_normal.proofs.Validity.{block_read}
use Rattle.dt_normal.proofs.parts.price.Goals as goal

pub overflow_add-result : goal.overflow_add-result
overflow_add-result c =
    let inside : c.args.at.start + c.args.first ≤ length c.args.classes.now = omega (arith, c.requires.within, c.requires.inside) in
    let block = block_read c.args.w.now c.args.classes.now c.args.at.start c.args.first c.index-block.result.now c.row_at.result.now c.row_at.ensures c.requires.some inside c.index-block.ensures in
    omega (arith, c.part.ensures.light, c.requires.few, inside, block_few c.args.w.now c.args.classes.now c.args.at.start c.args.first c.index-block.result.now c.requires.light inside c.requires.some block)

pub overflow_add-result-2 : goal.overflow_add-result-2
overflow_add-result-2 c =
    let inside : c.args.at.start + c.args.first ≤ length c.args.classes.now = omega (arith, c.requires.within, c.requires.inside) in
    let block = block_read c.args.w.now c.args.classes.now c.args.at.start c.args.first c.index-block.result.now c.row_at.result.now c.row_at.ensures c.requires.some inside c.index-block.ensures in
    omega (arith, c.part.ensures.light, c.parts_cost.ensures.near, c.requires.few, inside, block_few c.args.w.now c.args.classes.now c.args.at.start c.args.first c.index-block.result.now c.requires.light inside c.requires.some block)

pub returns : goal.returns
returns c =
    let inside : c.args.at.start + c.args.first ≤ length c.args.classes.now = omega (arith, c.requires.within, c.requires.inside) in
    let block = block_read c.args.w.now c.args.classes.now c.args.at.start c.args.first c.index-block.result.now c.row_at.result.now c.row_at.ensures c.requires.some inside c.index-block.ensures in
    record { one = c.index-block.result.now; rest = c.parts_cost.result; one_least = block; rest_least = c.parts_cost.ensures.value; sum = omega (arith, c.part.ensures.value) }
