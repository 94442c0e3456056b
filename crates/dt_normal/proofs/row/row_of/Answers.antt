use Rattle.std.proofs.Common.{◌≡◌, ◌+◌, ◌-◌, length, subst, arith}
use Rattle.dt_normal.specs.Known.{AreKnown}
use Rattle.dt_normal.proofs.Cells.{first_cell_is}
use Rattle.dt_normal.proofs.Rowing.{none_known, one_known, known_before, groups_before, group_at, groups_back, list_at}
use Rattle.dt_normal.proofs.row.row_of.Goals as goal

pub lengths-init : goal.lengths-init
lengths-init c =
    let none = none_known c.args.w.now c.args.classes.now c.args.start c.in_ok-row.row c.in_ok-row.ensures.trees c.in_ok-row.ensures.blocks c.in_ok-row.ensures.parts in
    let cell = first_cell_is c.args.w.now c.args.classes.now c.args.start c.first_cell.result (omega (arith, c.requires.start)) c.first_cell.ensures.tree c.first_cell.ensures.block c.first_cell.ensures.parts in
    record {
      known = one_known c.args.w.now c.args.classes.now c.args.start 0 c.in_ok-row.row c.push.new.self c.first_cell.result none cell c.in_ok-push.ensures.trees c.in_ok-push.ensures.blocks c.in_ok-push.ensures.parts;
      groups = c.in_ok-groups.ensures;
    }

pub cell_of-cell-requires-clause-lengths : goal.cell_of-cell-requires-clause-lengths
cell_of-cell-requires-clause-lengths c =
    rw c.deref.ensures.value
    (list_at (length c.args.classes.now) c.lengths.k c.args.blocks.now c.index-blocks-k.result c.requires.blocks (omega (arith, c.lengths-test.true, c.len.ensures.value)) c.index-blocks-k.is)

pub cell_of-cell-requires-clause-known : goal.cell_of-cell-requires-clause-known
cell_of-cell-requires-clause-known c = known_before c.args.w.now c.args.classes.now c.args.start c.lengths.k c.lengths.row c.lengths.invariant.known

pub cell_of-cell-requires-clause-group : goal.cell_of-cell-requires-clause-group
cell_of-cell-requires-clause-group c =
    group_at c.args.w.now c.args.classes.now c.args.start c.lengths.k c.index.result.now c.lengths.groups.items c.lengths.invariant.groups c.lengths.auto.k
    (omega (arith, c.lengths-test.true, c.len.ensures.value)) c.index.ensures

pub regroup-requires-clause-groups : goal.regroup-requires-clause-groups
regroup-requires-clause-groups c =
    groups_before c.args.w.now c.args.classes.now c.args.start c.lengths.k c.lengths.groups.items c.deref_mut.result.now c.lengths.invariant.groups c.deref_mut.ensures.value

pub lengths-preserved : goal.lengths-preserved
lengths-preserved c = record {
  known = one_known c.args.w.now c.args.classes.now c.args.start c.lengths.k c.lengths.row c.push-in-lengths.new.self c.cell_of-cell.result c.lengths.invariant.known c.cell_of-cell.ensures
      c.in_ok-push-2.ensures.trees c.in_ok-push-2.ensures.blocks c.in_ok-push-2.ensures.parts;
  groups = groups_back c.args.w.now c.args.classes.now c.args.start (c.lengths.k + 1) c.lengths.groups.len c.lengths.groups.items c.regroup.new.groups c.regroup.ensures c.lengths.groups.ok.0
      c.lengths.invariant.groups.each;
}

pub returns : goal.returns
returns c =
    let end : c.lengths.k ≡ length c.args.classes.now - c.args.start = omega (arith, c.lengths-test.false, c.lengths.auto.k-end, c.len.ensures.value, c.requires.start) in
    subst (λ n. AreKnown c.args.w.now c.args.classes.now c.args.start n c.lengths.row) end c.lengths.invariant.known
