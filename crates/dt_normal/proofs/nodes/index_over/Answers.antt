use Rattle.std.proofs.Common.{sym, ◌∙◌, subst}
use Rattle.dt_tree.specs.Node.{tree_of}
use Rattle.dt_tree.proofs.Nodes.{of_index}
use Rattle.dt_normal.specs.Forms.{IsCheapest, IsCheapestBlock}
use Rattle.dt_normal.proofs.Building.{index_cheapest}
use Rattle.dt_normal.proofs.nodes.index_over.Goals as goal

pub returns : goal.returns
returns c =
    let child = subst (λ n. IsCheapestBlock c.args.w.now c.args.entries.now c.args.at.start c.args.block c.args.copies.block (tree_of n)) (sym c.in_ok-child.ensures) c.requires.copies in
    subst (IsCheapest c.args.w.now c.args.entries.now c.args.at.start c.args.at.len) (sym (of_index c.args.copies.block c.from_vec.result c.in_ok-child.child))
    (index_cheapest c.args.w.now c.args.entries.now c.args.at.start c.args.at.len c.args.block c.args.copies.block c.from_vec.result (tree_of c.in_ok-child.child) c.requires.inside c.requires.form child
    (c.from_vec.ensures ∙ c.in_ok-places.ensures))
