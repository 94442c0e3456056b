use Rattle.std.proofs.Common.{sym}
use Rattle.dt_tree.specs.Node.{tree_of}
use Rattle.dt_tree.proofs.Rules.{short_subtrees}
use Rattle.dt_tree.proofs.tree.follows_rule.Goals as goal

pub returns : goal.returns
returns c =
    let tree = tree_of c.args.node.now in
    let numbers = c.if-not-numbers_fit.ensures in (
      λ e. record {
        numbers = sym numbers;
        shallow = c.is_shallow.ensures.0 c.if-not-is_shallow.false;
        small = c.is_small.ensures.0 c.if-not-is_small.false;
        short = (short_subtrees tree).0 (c.are_short.ensures.0 e);
      },
      λ rule. c.are_short.ensures.1 ((short_subtrees tree).1 rule.short),
    )
