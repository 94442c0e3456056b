use Rattle.std.proofs.Common.{rules}
use Rattle.std.proofs.lemmas.Int.{to_z-of_z}
use mir.Syntax.{w64}
use Rattle.dt_tree.specs.Node.{tree_of}
use Rattle.dt_rebuild.proofs.Around.{at_base, refused_at_base, lent, lent_is}
use Rattle.dt_rebuild.proofs.rebuild.placed.Goals as goal

pub returns-in_err-old : goal.returns-in_err-old
returns-in_err-old c =
    refused_at_base c.args.base (lent c.args.tree) (tree_of c.root.result.now) c.in_err-old.field-0.0 c.from_residual-in_err-old.result
    (lent_is c.args.tree c.in-Some.tree c.root.result.now c.in-Some.is c.root.ensures.value) c.in_err-old.ensures (search rules)

pub returns : goal.returns
returns c =
    at_base c.args.base _ (lent c.args.tree) (tree_of c.root.result.now) c.in_ok-old.old c.hindexed_block.result
    (lent_is c.args.tree c.in-Some.tree c.root.result.now c.in-Some.is c.root.ensures.value) c.in_ok-old.ensures (to_z-of_z w64 c.args.base c.ranges.base) c.hindexed_block.ensures
