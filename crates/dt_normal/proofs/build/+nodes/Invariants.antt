use Rattle.std.proofs.Common.{◌+◌, ◌*◌, ◌-◌}
use Rattle.dt_tree.specs.Node.{trees_of}
use Rattle.dt_normal.proofs.Grouping.{GroupSoFar}
use Rattle.dt_normal.proofs.build.+nodes.Given as goal

abbrev pub decreases-node : goal.decreases-node
decreases-node l = 3 * l.at.len + 1

abbrev pub decreases-copies_of : goal.decreases-copies_of
decreases-copies_of l = 3 * l.at.len + 2

abbrev pub decreases-group : goal.decreases-group
decreases-group l = 3 * l.at.len

abbrev pub invariant-group-parts : goal.invariant-group-parts
invariant-group-parts l = GroupSoFar l.w l.classes l.at.start l.at.len l.from (trees_of l.parts)

abbrev pub decreases-group-parts : goal.decreases-group-parts
decreases-group-parts l = l.end - l.from
