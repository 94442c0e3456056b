use Rattle.std.proofs.Common.{◌<◌, ap, subst, length, arith}
use Rattle.dt_tree.specs.Node.{tree_of}
use Rattle.dt_tree.specs.Place.{IsPlaceAt}
use Rattle.dt_tree.specs.Tree.{flat}
use Rattle.dt_tree.proofs.Entries.{found_at}
use Rattle.dt_tree.proofs.Rules.{short_subtrees}
use Rattle.dt_tree.proofs.tree.Tree.place_at.Goals as goal

pub find-requires-clause-short : goal.find-requires-clause-short
find-requires-clause-short c = (short_subtrees (tree_of c.self.inside.root)).1 c.self.invariant.short

pub returns : goal.returns
returns c =
    let same = ap tree_of c.self.view_is in
    let within : c.args.k < length (flat (tree_of c.self.inside.root)) = omega (arith, c.if-from-number.false, c.from.ensures, c.number.ensures) in
    found_at (flat (tree_of c.args.self.now)) c.args.k c.find.result (subst (λ t. c.args.k < length (flat t)) same within) (subst (λ t. IsPlaceAt (flat t) c.args.k c.find.result) same c.find.ensures)
