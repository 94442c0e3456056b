use Rattle.std.specs.Prelude.{List, [], ◌∷◌}
use Rattle.dt_tree.specs.declared.node.Node.{Node}
use Rattle.dt_tree.specs.declared.node.Node.TheOpen.{Node-F}
use Rattle.dt_tree.specs.declared.node.Node.TheFolds.{fold-Node}
use Rattle.dt_tree.specs.declared.node.PartOf.{PartOf}
use Rattle.dt_tree.specs.Tree.{Tree, leaf, vector, index, group, Parts, no_parts, part}

-- the parts that a list of them stands for
abbrev pub parts_of : List (PartOf Tree) → Parts
parts_of [] = no_parts
parts_of (p ∷ parts) = part p.block p.disp p.node (parts_of parts)

-- one node, with the trees of its children in their places
abbrev pub tree_step : Node-F Tree → Tree
tree_step (Node-F.Leaf kind) = leaf kind
tree_step (Node-F.Vector count block stride child) = vector count block stride child
tree_step (Node-F.Index block places child) = index block places child
tree_step (Node-F.Group parts) = group (parts_of parts)

-- the tree that a program's node stands for
abbrev pub tree_of : Node → Tree
tree_of = fold-Node Tree tree_step

-- the parts that a list of a program's parts stands for
abbrev pub trees_of : List (PartOf Node) → Parts
trees_of [] = no_parts
trees_of (p ∷ parts) = part p.block p.disp (tree_of p.node) (trees_of parts)
