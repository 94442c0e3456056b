use Rattle.std.proofs.Common.{◌+◌, ◌-◌, arith}
use Rattle.dt_normal.specs.declared.split.Split.TheVariants.{Alike, Even, Stacked}
use Rattle.dt_normal.specs.Splits.{IsLowest, IsSplit, split_cost}
use Rattle.dt_normal.proofs.Cells.{parts_few, trees_few, blocks_few, cell_is}
use Rattle.dt_normal.proofs.cell.cell_of.Goals as goal

pub overflow_add-grouped : goal.overflow_add-grouped
overflow_add-grouped c =
    omega (arith, c.group.ensures.light, c.requires.few, c.requires.long, c.requires.inside, parts_few c.args.w.now c.args.classes.now c.args.at.start c.args.at.len (c.args.at.len - 1) c.args.group c.requires.light c.requires.inside (omega arith) c.requires.group)

pub lowest-index-requires-clause-low : goal.lowest-index-requires-clause-low
lowest-index-requires-clause-low c =
    rw c.deref.ensures.value
    (blocks_few c.args.w.now c.args.classes.now c.args.at.start (c.args.at.len - 1) c.args.row.now.blocks.items c.requires.light c.requires.few (omega arith) c.requires.known.blocks)

pub lowest-vector-requires-clause-low : goal.lowest-vector-requires-clause-low
lowest-vector-requires-clause-low c =
    rw c.deref-2.ensures.value
    (blocks_few c.args.w.now c.args.classes.now c.args.at.start (c.args.at.len - 1) c.args.row.now.blocks.items c.requires.light c.requires.few (omega arith) c.requires.known.blocks)

pub lowest-stacked-requires-clause-low : goal.lowest-stacked-requires-clause-low
lowest-stacked-requires-clause-low c =
    rw c.deref-3.ensures.value
    (trees_few c.args.w.now c.args.classes.now c.args.at.start (c.args.at.len - 1) c.args.row.now.trees.items c.requires.light c.requires.few (omega arith) c.requires.known.trees)

pub overflow_add-alone : goal.overflow_add-alone
overflow_add-alone c =
    let few = parts_few c.args.w.now c.args.classes.now c.args.at.start c.args.at.len (c.args.at.len - 1) c.args.group c.requires.light c.requires.inside (omega arith) c.requires.group in
    omega (arith, c.group.ensures.light, few, c.lowest-index.ensures.starts, c.lowest-vector.ensures.starts, c.lowest-stacked.ensures.starts, c.alone.ensures.light)

pub overflow_add-part : goal.overflow_add-part
overflow_add-part c =
    let few = parts_few c.args.w.now c.args.classes.now c.args.at.start c.args.at.len (c.args.at.len - 1) c.args.group c.requires.light c.requires.inside (omega arith) c.requires.group in
    omega (arith, c.group.ensures.light, few, c.lowest-index.ensures.starts, c.lowest-vector.ensures.starts, c.min-tree.ensures, c.min-block.ensures, c.part.ensures.light)

pub returns : goal.returns
returns c =
    let index : IsLowest (IsSplit Alike c.args.classes.now c.args.at.start c.args.at.len) (split_cost c.args.w.now Alike c.args.at.len c.args.row.now.blocks.items) (c.group.result + c.args.group) c.lowest-index.result = rw c.deref.ensures.value at c.lowest-index.ensures in
    let vector : IsLowest (IsSplit Even c.args.classes.now c.args.at.start c.args.at.len) (split_cost c.args.w.now Even c.args.at.len c.args.row.now.blocks.items) c.lowest-index.result c.lowest-vector.result = rw c.deref-2.ensures.value at c.lowest-vector.ensures in
    let stacked : IsLowest (IsSplit Stacked c.args.classes.now c.args.at.start c.args.at.len) (split_cost c.args.w.now Stacked c.args.at.len c.args.row.now.trees.items) c.lowest-vector.result c.lowest-stacked.result = rw c.deref-3.ensures.value at c.lowest-stacked.ensures in
    cell_is c.args.w.now c.args.classes.now c.args.at.start c.args.at.len c.args.group (c.group.result + c.args.group) c.lowest-index.result c.lowest-vector.result c.lowest-stacked.result
    c.args.row.now _ c.requires.long c.requires.inside c.requires.known (record { group = c.requires.group; joined = omega (arith, c.group.ensures.value); alike = index; even = vector; stack = stacked })
    (omega (arith, c.min-tree.ensures, c.alone.ensures.value)) c.min-block.ensures (omega (arith, c.min.ensures, c.part.ensures.value))
