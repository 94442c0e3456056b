use Rattle.dt_tree.proofs.Subtrees.{places_an_entry}
use Rattle.dt_tree.proofs.laws.places_an_entry.Goals as goal

pub returns : goal.returns
returns c = places_an_entry
