use Rattle.std.proofs.Common.{sym, ◌∙◌, subst}
use Rattle.dt_tree.specs.Node.{tree_of}
use Rattle.dt_tree.proofs.Nodes.{of_vector}
use Rattle.dt_tree.proofs.Limits.{step_back}
use Rattle.dt_normal.specs.Forms.{IsCheapest, IsCheapestBlock}
use Rattle.dt_normal.proofs.Building.{vector_cheapest}
use Rattle.dt_normal.proofs.nodes.vector_over.Goals as goal

pub returns : goal.returns
returns c =
    let back = step_back c.distance-stride.result c.distance-stride.ensures.near in
    let child = subst (λ n. IsCheapestBlock c.args.w.now c.args.entries.now c.args.at.start c.args.block c.args.copies.block (tree_of n)) (sym c.in_ok-child.ensures) c.requires.copies in
    subst (IsCheapest c.args.w.now c.args.entries.now c.args.at.start c.args.at.len) (sym (of_vector _ _ _ c.in_ok-child.child))
    (vector_cheapest c.args.w.now c.args.entries.now c.args.at.start c.args.at.len c.args.block c.args.copies.block _ (tree_of c.in_ok-child.child) c.requires.inside c.requires.form child
    (back ∙ c.distance-stride.ensures.value))
