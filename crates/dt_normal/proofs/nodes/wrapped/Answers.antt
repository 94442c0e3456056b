use Rattle.std.proofs.Common.{◌/◌, sym, subst}
use Rattle.dt_tree.specs.Node.{tree_of}
use Rattle.dt_tree.proofs.Nodes.{of_vector, of_index}
use Rattle.dt_normal.specs.declared.form.Form.TheVariants.{Block}
use Rattle.dt_normal.specs.Forms.{IsCheapest, IsForm}
use Rattle.dt_normal.proofs.Building.{wrapped_vector, wrapped_index, wrapped_parts}
use Rattle.dt_normal.proofs.nodes.wrapped.Goals as goal

pub returns-in_ok-child-in-Vector : goal.returns-in_ok-child-in-Vector
returns-in_ok-child-in-Vector c =
    let child = subst (λ n. IsCheapest c.args.w.now c.args.entries.now c.args.at.start c.args.block (tree_of n)) (sym c.in_ok-child-in-Vector.ensures) c.requires.node in
    subst (IsCheapest c.args.w.now c.args.entries.now c.args.at.start c.args.at.len) (sym (of_vector _ _ _ c.in_ok-child-in-Vector.child))
    (wrapped_vector c.args.w.now c.args.entries.now c.args.at.start c.args.at.len c.args.block (tree_of c.in_ok-child-in-Vector.child) (subst (λ k. IsForm c.args.w.now c.args.entries.now c.args.at.start c.args.at.len (Block k c.args.block)) c.in-Vector.is c.requires.form) child)

pub returns-in_ok-child-in-Index : goal.returns-in_ok-child-in-Index
returns-in_ok-child-in-Index c =
    let child = subst (λ n. IsCheapest c.args.w.now c.args.entries.now c.args.at.start c.args.block (tree_of n)) (sym c.in_ok-child-in-Index.ensures) c.requires.node in
    subst (IsCheapest c.args.w.now c.args.entries.now c.args.at.start c.args.at.len) (sym (of_index (c.args.at.len / c.args.block) c.in_ok-places-in-Index.places c.in_ok-child-in-Index.child))
    (wrapped_index c.args.w.now c.args.entries.now c.args.at.start c.args.at.len c.args.block c.in_ok-places-in-Index.places (tree_of c.in_ok-child-in-Index.child)
    (subst (λ k. IsForm c.args.w.now c.args.entries.now c.args.at.start c.args.at.len (Block k c.args.block)) c.in-Index.is c.requires.form) child c.in_ok-places-in-Index.ensures)

pub returns-in_ok-push-in-Part : goal.returns-in_ok-push-in-Part
returns-in_ok-push-in-Part c =
    wrapped_parts c.args.w.now c.args.entries.now c.args.at.start c.args.at.len c.args.block c.args.node c.new-parts.result c.push.new.self
    (subst (λ k. IsForm c.args.w.now c.args.entries.now c.args.at.start c.args.at.len (Block k c.args.block)) c.in-Part.is c.requires.form) c.requires.node c.new-parts.ensures c.in_ok-push-in-Part.ensures.ok
