-- Best trees, and why there is none. No public clause cites this module.
use Rattle.std.specs.Prelude.{◌<◌, List, length, Option}
use Rattle.std.specs.Option.{option_map}
use Rattle.dt_map.specs.declared.entry.Entry.{Entry}
use Rattle.dt_names.specs.declared.stop.Stop.{Stop}
use Rattle.dt_names.specs.declared.stop.Stop.TheVariants.{Refused, NoMemory}
use Rattle.dt_normal.specs.declared.best.Best.{Best}
use Rattle.dt_reply.specs.declared.refusal.Refusal.TheVariants.{TooManyEntries}
use Rattle.dt_tree.specs.Node.{tree_of}
use Rattle.dt_tree.specs.Tree.{Tree}
use Rattle.dt_machine.specs.declared.limits.TheConstants.{MOST_SOUGHT}

-- the tree, where there is one
abbrev pub tree_in : Best → Option Tree
tree_in best = option_map tree_of best.tree

-- too many entries, or want of memory, which is tied to nothing
abbrev pub IsWithout : List Entry → Stop → Type 0
IsWithout entries (Refused TooManyEntries) = MOST_SOUGHT < length entries
IsWithout entries NoMemory = Unit {0}
IsWithout entries stop = ⊥
