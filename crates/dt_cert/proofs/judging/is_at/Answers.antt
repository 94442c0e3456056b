use Rattle.std.proofs.Common.{◌∙◌, sym}
use Rattle.dt_tree.specs.Node.{tree_of}
use Rattle.dt_tree.specs.Tree.{flat}
use Rattle.dt_cert.proofs.Comparing.{base_again, place_near, entry_found}
use Rattle.dt_cert.proofs.judging.is_at.Goals as goal

pub is_entry-requires : goal.is_entry-requires
is_entry-requires c = place_near (tree_of c.args.tree.now) c.args.k c.in-Some.place c.root-root.ensures.rule (sym c.place_at.ensures ∙ c.in-Some.is)

pub returns : goal.returns
returns c = entry_found c.is_entry.result (flat (tree_of c.args.tree.now)) c.args.base c.args.k c.in-Some.place c.args.entry (sym c.place_at.ensures ∙ c.in-Some.is) (rw (base_again c.args.base c.ranges.base) at c.is_entry.ensures)
