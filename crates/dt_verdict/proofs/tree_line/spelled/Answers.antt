use Rattle.std.proofs.Common.{sym, subst}
use Rattle.dt_tree.specs.Node.{tree_of}
use Rattle.dt_spelling.specs.declared.fault.TreeFault.{TreeFault}
use Rattle.dt_spelling.specs.Fault.{IsRefused}
use Rattle.dt_verdict.proofs.TreeLines.{spelled_read, none_spelled}
use Rattle.dt_verdict.proofs.tree_line.spelled.Goals as goal

pub returns-in-Ok : goal.returns-in-Ok
returns-in-Ok c = sym (spelled_read c.args.text.now (tree_of c.in-Ok.tree) c.in-Ok.ensures)

pub returns-in-Err-Syntax : goal.returns-in-Err-Syntax
returns-in-Err-Syntax c =
    let refused = subst (λ (fault : TreeFault). IsRefused c.args.text.now fault) c.in-Err-Syntax.field-0-is c.in-Err-Syntax.ensures in
    sym (none_spelled c.args.text.now refused.0)
