-- the tree that a node stands for, one node at a time
use Rattle.std.proofs.Common.{◌≡◌, ℕ, ◌+◌, ◌≤◌, ◌<◌, ℤ, List, [], ◌∷◌, map, length, drop, get_or, refl, sym, ap, ◌∙◌, arith}
use Rattle.std.proofs.lemmas.List.{at_drop_more, at_drop_all}
use Rattle.dt_kinds.specs.declared.kind.Kind.{Kind}
use Rattle.dt_tree.specs.declared.node.Node.{Node}
use Rattle.dt_tree.specs.declared.node.Node.TheVariants.{Leaf, Vector, Index, Group, rolls-Leaf, rolls-Vector, rolls-Index, rolls-Group}
use Rattle.dt_tree.specs.declared.node.Node.TheOpen.{Node-F}
use Rattle.dt_tree.specs.declared.node.Node.TheFolds.{fold-roll-Node}
use Rattle.dt_tree.specs.declared.node.PartOf.{PartOf}
use Rattle.dt_tree.specs.Tree.{Tree, leaf, vector, index, group, no_parts, part}
use Rattle.dt_tree.specs.Rule.{part_count}
use Rattle.dt_tree.specs.Node.{tree_of, trees_of, tree_step, parts_of}

pub of_leaf : (kind : Kind) → tree_of (Leaf kind) ≡ leaf kind
of_leaf kind = ap tree_of (sym (rolls-Leaf kind)) ∙ fold-roll-Node Tree tree_step (Node-F.Leaf kind)

pub of_vector : (count block : ℕ) (stride : ℤ) (child : Node) → tree_of (Vector count block stride child) ≡ vector count block stride (tree_of child)
of_vector count block stride child = ap tree_of (sym (rolls-Vector count block stride child)) ∙ fold-roll-Node Tree tree_step (Node-F.Vector count block stride child)

pub of_index : (block : ℕ) (places : List ℤ) (child : Node) → tree_of (Index block places child) ≡ index block places (tree_of child)
of_index block places child = ap tree_of (sym (rolls-Index block places child)) ∙ fold-roll-Node Tree tree_step (Node-F.Index block places child)

abbrev seen : PartOf Node → PartOf Tree
seen p = record { block = p.block; disp = p.disp; node = tree_of p.node }

parts_seen : (parts : List (PartOf Node)) → parts_of (map seen parts) ≡ trees_of parts
parts_seen [] = refl
parts_seen (p ∷ parts) = ap (part p.block p.disp (tree_of p.node)) (parts_seen parts)

pub of_group : (parts : List (PartOf Node)) → tree_of (Group parts) ≡ group (trees_of parts)
of_group parts = ap tree_of (sym (rolls-Group parts)) ∙ (fold-roll-Node Tree tree_step (Node-F.Group parts) ∙ ap group (parts_seen parts))

-- the parts from one on
pub rest_more : (parts : List (PartOf Node)) (i : ℕ) (p : PartOf Node) → i < length parts → p ≡ get_or parts i p →
    trees_of (drop i parts) ≡ part p.block p.disp (tree_of p.node) (trees_of (drop (i + 1) parts))
rest_more parts i p lt is = at_drop_more trees_of parts i p lt ∙ ap (λ (q : PartOf Node). part q.block q.disp (tree_of q.node) (trees_of (drop (i + 1) parts))) (sym is)

pub rest_none : (parts : List (PartOf Node)) (i : ℕ) → length parts ≤ i → trees_of (drop i parts) ≡ no_parts
rest_none parts i end = at_drop_all trees_of parts i end

pub count_of : (parts : List (PartOf Node)) → part_count (trees_of parts) ≡ length parts
count_of [] = refl
count_of (p ∷ parts) = let h = count_of parts in omega arith

pub ruleset nodes = (of_leaf, of_vector, of_index, of_group, rest_more, rest_none, count_of)
