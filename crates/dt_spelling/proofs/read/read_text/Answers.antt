use Rattle.std.proofs.Common.{◌≡◌, ℕ, min, length, sym, subst, arith}
use Rattle.std.proofs.lemmas.Int.{clamps}
use Rattle.dt_tree.specs.declared.node.Node.{Node}
use Rattle.dt_tree.specs.Node.{tree_of}
use Rattle.dt_spelling.specs.declared.fault.TreeFault.TheVariants.{Syntax}
use Rattle.dt_spelling.specs.Fault.{IsRefused}
use Rattle.dt_spelling.specs.Reading.{Stops, tree_at, words_from}
use Rattle.dt_spelling.specs.declared.stop.Stop.{Stop}
use Rattle.dt_spelling.specs.Spelling.{IsSpelling}
use Rattle.dt_spelling.proofs.Faults.{spelling_read, too_far, stopped}
use Rattle.dt_spelling.proofs.read.read_text.Goals as goal

pub returns-in-Ok-of_node : goal.returns-in-Ok-of_node
returns-in-Ok-of_node c =
    subst (λ (node : Node). IsSpelling c.args.text.now (tree_of node)) (sym c.in-Ok-of_node.ensures.0)
    (spelling_read c.args.text.now (tree_of c.in-Ok.root) c.in-Ok.ensures c.in-Ok-of_node.ensures.1)

pub returns-in-Ok : goal.returns-in-Ok
returns-in-Ok c = too_far c.args.text.now (tree_of c.in-Ok.root) c.in-Ok.ensures c.in-Err.ensures.1

pub returns-in-Err-At : goal.returns-in-Err-At
returns-in-Err-At c =
    let place : c.min.result ≡ min c.in-Err-At.at (length c.args.text.now) = omega (arith, clamps) in
    let read = subst (λ (stop : Stop). Stops c.args.text.now stop (tree_at (words_from c.args.text.now 0))) c.in-Err-At.field-0-is c.in-Err-At.ensures in
    subst (λ (at : ℕ). IsRefused c.args.text.now (Syntax at)) (sym place) (stopped c.args.text.now c.in-Err-At.at read)
