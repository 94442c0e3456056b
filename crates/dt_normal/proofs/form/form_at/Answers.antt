use Rattle.std.proofs.Common.{inl, inr, ◌-◌, length, arith}
use Rattle.dt_normal.proofs.Cells.{trees_few, blocks_few, block_few}
use Rattle.dt_normal.proofs.Validity.{tree_read, block_read}
use Rattle.dt_normal.proofs.Forming.{vectors_form, indices_form, block_form, parts_form}
use Rattle.dt_normal.proofs.form.form_at.Goals as goal

pub split_at-requires-clause-low : goal.split_at-requires-clause-low
split_at-requires-clause-low c =
    rw c.deref.ensures.value
    (blocks_few c.args.w.now c.args.classes.now c.args.at.start (length c.args.classes.now - c.args.at.start) c.args.row.now.blocks.items c.requires.light c.requires.few (omega (arith, c.requires.inside)) c.requires.row.blocks)

pub returns-in-Some : goal.returns-in-Some
returns-in-Some c =
    let tree = tree_read c.args.w.now c.args.classes.now c.args.at.start c.args.at.len c.index-cost.result.now c.args.row.now c.requires.row c.requires.some c.requires.inside c.index-cost.ensures in
    let found = rw c.deref.ensures.value at c.in-Some.ensures in
    vectors_form c.args.w.now c.args.classes.now c.args.at.start c.args.at.len c.in-Some.block c.index-cost.result.now c.args.row.now c.requires.row c.requires.inside tree found.0 found.1

pub split_at-requires-2-clause-low : goal.split_at-requires-2-clause-low
split_at-requires-2-clause-low c =
    rw c.deref-2.ensures.value
    (blocks_few c.args.w.now c.args.classes.now c.args.at.start (length c.args.classes.now - c.args.at.start) c.args.row.now.blocks.items c.requires.light c.requires.few (omega (arith, c.requires.inside)) c.requires.row.blocks)

pub returns-in-Some-split_at : goal.returns-in-Some-split_at
returns-in-Some-split_at c =
    let tree = tree_read c.args.w.now c.args.classes.now c.args.at.start c.args.at.len c.index-cost.result.now c.args.row.now c.requires.row c.requires.some c.requires.inside c.index-cost.ensures in
    let found = rw c.deref-2.ensures.value at c.in-Some-split_at.ensures in
    indices_form c.args.w.now c.args.classes.now c.args.at.start c.args.at.len c.in-Some-split_at.block c.index-cost.result.now c.args.row.now c.requires.row c.requires.inside tree found.0 found.1

pub split_at-requires-3-clause-low : goal.split_at-requires-3-clause-low
split_at-requires-3-clause-low c =
    rw c.deref-3.ensures.value
    (trees_few c.args.w.now c.args.classes.now c.args.at.start (length c.args.classes.now - c.args.at.start) c.args.row.now.trees.items c.requires.light c.requires.few (omega (arith, c.requires.inside)) c.requires.row.trees)

pub wrap_of-requires : goal.wrap_of-requires
wrap_of-requires c =
    let block = block_read c.args.w.now c.args.classes.now c.args.at.start c.args.at.len c.index-copies.result.now c.args.row.now c.requires.row c.requires.some c.requires.inside c.index-copies.ensures in
    omega (arith, c.requires.few, c.requires.inside, block_few c.args.w.now c.args.classes.now c.args.at.start c.args.at.len c.index-copies.result.now c.requires.light c.requires.inside c.requires.some block)

pub returns-in-None : goal.returns-in-None
returns-in-None c =
    let tree = tree_read c.args.w.now c.args.classes.now c.args.at.start c.args.at.len c.index-cost.result.now c.args.row.now c.requires.row c.requires.some c.requires.inside c.index-cost.ensures in
    let block = block_read c.args.w.now c.args.classes.now c.args.at.start c.args.at.len c.index-copies.result.now c.args.row.now c.requires.row c.requires.some c.requires.inside c.index-copies.ensures in
    let even = rw c.deref.ensures.value at c.in_default.ensures in
    let alike = rw c.deref-2.ensures.value at c.in_default-split_at.ensures in
    let none = rw c.deref-3.ensures.value at c.in-None.ensures in
    parts_form c.args.w.now c.args.classes.now c.args.at.start c.args.at.len c.index-copies.result.now c.index-cost.result.now c.args.row.now c.requires.row c.requires.inside
    (omega (arith, c.requires.some, c.if-at-eq1.false)) block tree (record { even = even; alike = alike; wraps = inl none })

pub returns-in-None-wrap_of : goal.returns-in-None-wrap_of
returns-in-None-wrap_of c =
    let tree = tree_read c.args.w.now c.args.classes.now c.args.at.start c.args.at.len c.index-cost.result.now c.args.row.now c.requires.row c.requires.some c.requires.inside c.index-cost.ensures in
    let block = block_read c.args.w.now c.args.classes.now c.args.at.start c.args.at.len c.index-copies.result.now c.args.row.now c.requires.row c.requires.some c.requires.inside c.index-copies.ensures in
    let even = rw c.deref.ensures.value at c.in_default.ensures in
    let alike = rw c.deref-2.ensures.value at c.in_default-split_at.ensures in
    parts_form c.args.w.now c.args.classes.now c.args.at.start c.args.at.len c.index-copies.result.now c.index-cost.result.now c.args.row.now c.requires.row c.requires.inside
    (omega (arith, c.requires.some, c.if-at-eq1.false)) block tree (record { even = even; alike = alike; wraps = inr c.in-None-wrap_of.ensures })

pub returns-in-Some-wrap_of : goal.returns-in-Some-wrap_of
returns-in-Some-wrap_of c =
    let tree = tree_read c.args.w.now c.args.classes.now c.args.at.start c.args.at.len c.index-cost.result.now c.args.row.now c.requires.row c.requires.some c.requires.inside c.index-cost.ensures in
    let found = rw c.deref-3.ensures.value at c.in-Some-split_at-2.ensures in
    block_form c.args.w.now c.args.classes.now c.args.at.start c.args.at.len c.in-Some-split_at-2.block c.index-copies.result.now c.index-cost.result.now c.in-Some-wrap_of.wrap c.args.row.now
    c.requires.row c.requires.inside tree found.0 found.1 c.in-Some-wrap_of.ensures
