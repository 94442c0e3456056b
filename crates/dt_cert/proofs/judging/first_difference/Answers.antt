use Rattle.std.proofs.Common.{arith, subst, ℤ}
use Rattle.dt_map.specs.Typemap.{shift}
use Rattle.dt_map.proofs.Summaries.{length-shift}
use Rattle.dt_tree.specs.Node.{tree_of}
use Rattle.dt_tree.specs.Tree.{flat}
use Rattle.dt_tree.proofs.Rules.{rule_is_tree}
use Rattle.dt_cert.proofs.Comparing.{AreSame, all_same, base_again}
use Rattle.dt_cert.proofs.judging.first_difference.Goals as goal

pub returns : goal.returns
returns c =
    let es = flat (tree_of c.args.tree.now) in
    let same : AreSame (shift c.args.base es) c.args.entries.now c.entries.k = subst (λ (z : ℤ). AreSame (shift z es) c.args.entries.now c.entries.k) (base_again c.args.base c.ranges.base) c.entries.invariant in (
      rule_is_tree (tree_of c.args.tree.now) c.root-root.ensures.rule,
      all_same (shift c.args.base es) c.args.entries.now c.entries.k same (omega (arith, c.entries-test.false, c.entries.auto.k-end))
          (omega (arith, length-shift c.args.base es, c.elements.ensures, c.if-elements-entries.false, c.requires)),
    )
