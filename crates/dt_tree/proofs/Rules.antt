-- the rule of programs' trees
use Rattle.std.proofs.Common.{◌≡◌, ◌⊎◌, inl, inr, ℕ, ◌<◌, true, sym, refl, subst, arith}
use Rattle.std.proofs.lemmas.Int.{ints}
use Rattle.dt_kinds.specs.declared.kind.Kind.{Kind}
use Rattle.dt_kinds.proofs.Table.{native_size-le}
use Rattle.dt_tree.specs.Laws.{ShortSubtrees, RuleIsTree}
use Rattle.dt_tree.specs.Rule.{numbers_fit, parts_fit, part_count, IsShort, AreShort, PartsShort}
use Rattle.dt_tree.specs.Tree.{Tree, leaf, vector, index, group, Parts, no_parts, part, flat, has_part, IsTree, AreTrees, IsBlockIn, IsBlockAmong, IsWithin}
use Rattle.dt_tree.proofs.Limits.{vector_fits, index_fits, part_fits, group_fits}

-- numbers within their limits make a tree
has_some : (parts : Parts) → 0 < part_count parts → has_part parts
has_some no_parts some = absurd (omega arith)
has_some (part block disp child rest) some = tt

mutual
  pub fit_is_tree : (tree : Tree) → numbers_fit tree ≡ true → IsTree tree
  fit_is_tree (leaf kind) e = tt
  fit_is_tree (vector count block stride child) e = let h = vector_fits count block stride child e in (h.count_fits.0, h.block_fits.0, fit_is_tree child h.child_fits)
  fit_is_tree (index block places child) e = let h = index_fits block places child e in (h.block_fits.0, h.number_fits.0, fit_is_tree child h.child_fits)
  fit_is_tree (group parts) e = let h = group_fits parts e in (has_some parts h.0, fit_are_trees parts h.2)

  pub fit_are_trees : (parts : Parts) → parts_fit parts ≡ true → AreTrees parts
  fit_are_trees no_parts e = tt
  fit_are_trees (part block disp child rest) e =
      let h = part_fits block disp child rest e in (h.block_fits.0, fit_is_tree child h.child_fits, fit_are_trees rest h.rest_fits)

pub rule_is_tree : RuleIsTree
rule_is_tree tree rule = fit_is_tree tree rule.numbers

-- a leaf is short
leaf_short : (kind : Kind) → IsShort (flat (leaf kind))
leaf_short kind = let few = native_size-le kind in record { from = omega (arith, ints); to = omega (arith, ints) }

pub own_short : (tree : Tree) → AreShort tree → IsShort (flat tree)
own_short (leaf kind) h = leaf_short kind
own_short (vector count block stride child) h = h.0
own_short (index block places child) h = h.0
own_short (group parts) h = h.0

mutual
  below_short : (tree node : Tree) (n : ℕ) → AreShort tree → IsBlockIn n node tree → IsShort (flat node)
  below_short (leaf kind) node n h within = absurd within
  below_short (vector count block stride child) node n h (inl same) = subst (λ t. IsShort (flat t)) (sym same.1) (own_short child h.1)
  below_short (vector count block stride child) node n h (inr within) = below_short child node n h.1 within
  below_short (index block places child) node n h (inl same) = subst (λ t. IsShort (flat t)) (sym same.1) (own_short child h.1)
  below_short (index block places child) node n h (inr within) = below_short child node n h.1 within
  below_short (group parts) node n h within = among_short parts node n h.1 within

  among_short : (parts : Parts) (node : Tree) (n : ℕ) → PartsShort parts → IsBlockAmong n node parts → IsShort (flat node)
  among_short no_parts node n h within = absurd within
  among_short (part block disp child rest) node n h (inl (inl same)) = subst (λ t. IsShort (flat t)) (sym same.1) (own_short child h.0)
  among_short (part block disp child rest) node n h (inl (inr within)) = below_short child node n h.0 within
  among_short (part block disp child rest) node n h (inr within) = among_short rest node n h.1 within

within_short : (tree node : Tree) → AreShort tree → IsWithin node tree → IsShort (flat node)
within_short tree node h (inl same) = subst (λ t. IsShort (flat t)) (sym same) (own_short tree h)
within_short tree node h (inr within) = below_short tree node within.0 h within.1

-- a node within a child stands in a block of the tree
in_block : (node : Tree) (block : ℕ) (child : Tree) → IsWithin node child → (n : ℕ) × (((n ≡ block) × (node ≡ child)) ⊎ IsBlockIn n node child)
in_block node block child (inl same) = (block, inl (refl, same))
in_block node block child (inr within) = (within.0, inr within.1)

mutual
  all_short : (tree : Tree) → ((node : Tree) → IsWithin node tree → IsShort (flat node)) → AreShort tree
  all_short (leaf kind) each = tt
  all_short (vector count block stride child) each = (
    each (vector count block stride child) (inl refl),
    all_short child (λ node within. each node (inr (in_block node block child within))),
  )
  all_short (index block places child) each = (
    each (index block places child) (inl refl),
    all_short child (λ node within. each node (inr (in_block node block child within))),
  )
  all_short (group parts) each = (each (group parts) (inl refl), parts_short parts (λ node n within. each node (inr (n, within))))

  parts_short : (parts : Parts) → ((node : Tree) (n : ℕ) → IsBlockAmong n node parts → IsShort (flat node)) → PartsShort parts
  parts_short no_parts each = tt
  parts_short (part block disp child rest) each = (
    all_short child (λ node within. let h = in_block node block child within in each node h.0 (inl h.1)),
    parts_short rest (λ node n within. each node n (inr within)),
  )

pub short_subtrees : ShortSubtrees
short_subtrees tree = (λ h node within. within_short tree node h within, λ each. all_short tree each)
