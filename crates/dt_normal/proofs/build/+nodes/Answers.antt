use Rattle.std.proofs.Common.{◌+◌, ◌≤◌, List, length, sym, ap, subst, arith}
use Rattle.dt_map.specs.declared.entry.Entry.{Entry}
use Rattle.dt_alike.specs.Step.{entry_at}
use Rattle.dt_tree.specs.declared.node.Node.TheVariants.{Leaf}
use Rattle.dt_tree.specs.Node.{tree_of, trees_of}
use Rattle.dt_tree.proofs.Nodes.{of_leaf, of_group}
use Rattle.dt_normal.specs.declared.form.Form.TheVariants.{Vectors, Indices, Block}
use Rattle.dt_normal.specs.Forms.{IsCheapest, IsForm}
use Rattle.dt_normal.proofs.Building.{copies_cheapest, leaf_cheapest}
use Rattle.dt_normal.proofs.Grouping.{first_pushed, next_pushed, group_done}
use Rattle.dt_normal.proofs.build.+nodes.Goals as goal

pub copies_of-returns : goal.copies_of-returns
copies_of-returns t c =
    copies_cheapest c.args.w.now c.args.classes.now c.args.at.start c.args.at.len c.block_at-len.result (tree_of c.in_ok-node.node) c.block_at-len.ensures c.in_ok-node.ensures

pub group-parts-init : goal.group-parts-init
group-parts-init t c =
    first_pushed c.args.w.now c.args.classes.now c.args.entries.now c.args.at.start c.args.at.len c.first_part-len.result c.in_ok-first.first.block c.in_ok-first.first.node c.part_of.result c.new-parts.result c.push.new.self
    c.requires.inside c.requires.form.0 c.first_part-len.ensures c.in_ok-first.ensures c.requires.entries c.part_of.ensures.block c.part_of.ensures.disp c.part_of.ensures.node c.new-parts.ensures c.in_ok-push.ensures.ok

pub group-parts-preserved : goal.group-parts-preserved
group-parts-preserved t c =
    next_pushed c.args.w.now c.args.classes.now c.args.entries.now c.args.at.start c.args.at.len c.parts.from c.first_part-len-in-parts.result c.in_ok-next.next.block c.in_ok-next.next.node c.part_of-in-parts.result c.parts.parts c.push-in-parts.new.self
    c.requires.inside c.parts-test.true c.parts.invariant c.first_part-len-in-parts.ensures c.in_ok-next.ensures c.requires.entries c.part_of-in-parts.ensures.block c.part_of-in-parts.ensures.disp c.part_of-in-parts.ensures.node
    c.in_ok-push-2.ensures.ok

pub group-returns : goal.group-returns
group-returns t c =
    subst (IsCheapest c.args.w.now c.args.classes.now c.args.at.start c.args.at.len) (sym (of_group c.parts.parts))
    (group_done c.args.w.now c.args.classes.now c.args.at.start c.args.at.len c.parts.from (trees_of c.parts.parts) (omega (arith, c.parts-test.false)) c.parts.invariant c.requires.form)

pub node-vector_over-requires-clause-form : goal.node-vector_over-requires-clause-form
node-vector_over-requires-clause-form t c =
    subst (λ (m : List Entry). IsForm c.args.w.now m c.args.at.start c.args.at.len (Vectors c.in-Vectors.len)) (sym c.requires.entries) c.in-Vectors.ensures

pub node-index_over-requires-clause-form : goal.node-index_over-requires-clause-form
node-index_over-requires-clause-form t c =
    subst (λ (m : List Entry). IsForm c.args.w.now m c.args.at.start c.args.at.len (Indices c.in-Indices.len)) (sym c.requires.entries) c.in-Indices.ensures

pub node-wrapped-requires-clause-form : goal.node-wrapped-requires-clause-form
node-wrapped-requires-clause-form t c =
    subst (λ (m : List Entry). IsForm c.args.w.now m c.args.at.start c.args.at.len (Block c.in-Block.wrap c.in-Block.len)) (sym c.requires.entries) c.in-Block.ensures

pub node-returns-in-Leaf : goal.node-returns-in-Leaf
node-returns-in-Leaf t c =
    let kind = ap (λ (m : List Entry). (entry_at m c.args.at.start).kind) c.requires.entries in
    let inside : c.args.at.start + 1 ≤ length c.args.classes.now = omega (arith, c.requires.inside, c.requires.some) in
    subst (λ n. IsCheapest c.args.w.now c.args.classes.now c.args.at.start n (tree_of (Leaf (entry_at c.args.entries.now c.args.at.start).kind))) (sym c.in-Leaf.ensures)
    (subst (IsCheapest c.args.w.now c.args.classes.now c.args.at.start 1) (sym (of_leaf (entry_at c.args.entries.now c.args.at.start).kind))
    (leaf_cheapest c.args.w.now c.args.classes.now c.args.at.start (entry_at c.args.entries.now c.args.at.start).kind inside kind))
