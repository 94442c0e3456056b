-- where the subtrees of a tree stand
use Rattle.std.proofs.Common.{◌≡◌, inl, inr, ℕ, zero, suc, ◌+◌, ◌*◌, ◌≤◌, ◌<◌, ℤ, pos, ◌+ℤ◌, List, length, get_or, sym, ap, ◌∙◌, subst, arith, length-append}
use Rattle.std.proofs.lemmas.List.{take_all}
use Rattle.dt_map.specs.declared.entry.Entry.{Entry}
use Rattle.dt_map.specs.Typemap.{shift}
use Rattle.dt_map.specs.Runs.{natural_extent, placed_at, even, run}
use Rattle.dt_map.specs.Alike.{segment}
use Rattle.dt_map.proofs.Placings.{shift-shift}
use Rattle.dt_map.proofs.Summaries.{length-shift}
use Rattle.dt_map.proofs.Seats.{Sits, sits_segment, sits_inside, segment_sits, sits_first, sits_second, sits_shifted, sits_at, sits_copy, length-placed_at, length-even, length-run}
use Rattle.dt_map.proofs.Stacks.{runs_stacked}
use Rattle.dt_tree.specs.Tree.{Tree, leaf, vector, index, group, Parts, no_parts, part, flat, flat_parts, has_part, IsTree, AreTrees, Denotes, IsBlockIn, IsBlockAmong}
use Rattle.dt_tree.specs.Laws.{PlacesAnEntry, DenotesFurther, SubtreesDenote, BlocksAreStacked}

-- each tree places an entry
product_pos : (a b : ℕ) → 0 < a → 0 < b → 0 < a * b
product_pos zero b p q = absurd (omega arith)
product_pos (suc a) b p q = omega (arith, q)

pub length-blocks : (places : List ℤ) (block : ℕ) (es : List Entry) → length (placed_at places (run block es)) ≡ length places * (block * length es)
length-blocks places block es = length-placed_at places (run block es) ∙ ap (λ n. length places * n) (length-run block es)

pub run-pos : (block : ℕ) (es : List Entry) → 0 < block → 0 < length es → 0 < length (run block es)
run-pos block es p q = omega (arith, length-run block es, product_pos block (length es) p q)

pub placed_at-pos : (places : List ℤ) (es : List Entry) → 0 < length places → 0 < length es → 0 < length (placed_at places es)
placed_at-pos places es p q = omega (arith, length-placed_at places es, product_pos (length places) (length es) p q)

mutual
  pub places_an_entry : PlacesAnEntry
  places_an_entry (leaf kind) ok = omega arith
  places_an_entry (vector count block stride child) ok =
      placed_at-pos (even count stride) (run block (flat child)) (omega (arith, ok.0, length-even count stride)) (run-pos block (flat child) ok.1 (places_an_entry child ok.2))
  places_an_entry (index block places child) ok = placed_at-pos places (run block (flat child)) ok.1 (run-pos block (flat child) ok.0 (places_an_entry child ok.2))
  places_an_entry (group parts) ok = parts_place parts ok.0 ok.1

  pub parts_place : (parts : Parts) → has_part parts → AreTrees parts → 0 < length (flat_parts parts)
  parts_place no_parts has ok = absurd has
  parts_place (part block disp child rest) has ok =
      let here = run-pos block (flat child) ok.0 (places_an_entry child ok.1) in
      omega (arith, here, length-append (shift disp (run block (flat child))) (flat_parts rest), length-shift disp (run block (flat child)))

pub denotes_further : DenotesFurther
denotes_further tree base x m h = (h.0, sym (shift-shift x base (flat tree)) ∙ ap (shift x) h.1)

-- where a tree sits that stands for entries, and where a block in it does
abbrev Block : List Entry → ℕ → Tree → Type 0
Block m n node = (start : ℕ) × (y : ℤ) × Sits m y (run n (flat node)) start × (0 < n) × IsTree node

here : (m : List Entry) (y : ℤ) (i n block : ℕ) (node child : Tree) → Sits m y (run block (flat child)) i → 0 < block → IsTree child → n ≡ block → node ≡ child → Block m n node
here m y i n block node child sits some ok same_block same_node =
    subst (λ b. Block m b node) (sym same_block) (subst (Block m block) (sym same_node) (i, y, sits, some, ok))

pub first_of_run : (m : List Entry) (y : ℤ) (i block : ℕ) (es : List Entry) → Sits m y (run block es) i → 0 < block →
    Sits m (get_or (even block (natural_extent es)) 0 (pos 0) +ℤ y) es (i + 0 * length es)
first_of_run m y i block es sits some = sits_copy m y (even block (natural_extent es)) es i 0 sits (omega (arith, some, length-even block (natural_extent es)))

-- the first copy of blocks, and the block of a part
first_block : (m : List Entry) (y : ℤ) (i : ℕ) (places : List ℤ) (block : ℕ) (child : Tree) → Sits m y (placed_at places (run block (flat child))) i → 0 < length places →
    Sits m (get_or places 0 (pos 0) +ℤ y) (run block (flat child)) (i + 0 * length (run block (flat child)))
first_block m y i places block child sits placed = sits_copy m y places (run block (flat child)) i 0 sits placed

pub part_block : (m : List Entry) (y : ℤ) (i block : ℕ) (disp : ℤ) (child : Tree) (rest : Parts) → Sits m y (flat_parts (part block disp child rest)) i → Sits m (disp +ℤ y) (run block (flat child)) i
part_block m y i block disp child rest sits =
    sits_shifted disp (run block (flat child)) (sits_first (shift disp (run block (flat child))) (flat_parts rest) sits)

mutual
  block_in : (m : List Entry) (y : ℤ) (i n : ℕ) (node tree : Tree) → Sits m y (flat tree) i → IsTree tree → IsBlockIn n node tree → Block m n node
  block_in m y i n node (leaf kind) sits ok within = absurd within
  block_in m y i n node (vector count block stride child) sits ok (inl same) =
      here m _ _ n block node child (first_block m y i (even count stride) block child sits (omega (arith, ok.0, length-even count stride))) ok.1 ok.2 same.0 same.1
  block_in m y i n node (vector count block stride child) sits ok (inr within) =
      block_in m _ _ n node child (first_of_run m _ _ block (flat child) (first_block m y i (even count stride) block child sits (omega (arith, ok.0, length-even count stride))) ok.1) ok.2 within
  block_in m y i n node (index block places child) sits ok (inl same) =
      here m _ _ n block node child (first_block m y i places block child sits ok.1) ok.0 ok.2 same.0 same.1
  block_in m y i n node (index block places child) sits ok (inr within) =
      block_in m _ _ n node child (first_of_run m _ _ block (flat child) (first_block m y i places block child sits ok.1) ok.0) ok.2 within
  block_in m y i n node (group parts) sits ok within = block_among m y i n node parts sits ok.1 within

  block_among : (m : List Entry) (y : ℤ) (i n : ℕ) (node : Tree) (parts : Parts) → Sits m y (flat_parts parts) i → AreTrees parts → IsBlockAmong n node parts → Block m n node
  block_among m y i n node no_parts sits ok within = absurd within
  block_among m y i n node (part block disp child rest) sits ok (inl (inl same)) =
      here m _ _ n block node child (part_block m y i block disp child rest sits) ok.0 ok.1 same.0 same.1
  block_among m y i n node (part block disp child rest) sits ok (inl (inr within)) =
      block_in m _ _ n node child (first_of_run m _ _ block (flat child) (part_block m y i block disp child rest sits) ok.0) ok.1 within
  block_among m y i n node (part block disp child rest) sits ok (inr within) =
      block_among m y _ n node rest (sits_second (shift disp (run block (flat child))) (flat_parts rest) sits) ok.2 within

pub denotes_sits : (tree : Tree) (base : ℤ) (m : List Entry) → Denotes tree base m → Sits m base (flat tree) 0
denotes_sits tree base m h = segment_sits m base (flat tree) 0 (length m) (omega arith) (take_all (length m) m (omega arith) ∙ sym h.1)

-- what sits is a segment
sits_denotes : (m : List Entry) (y : ℤ) (node : Tree) (start : ℕ) → Sits m y (flat node) start → IsTree node → Denotes node y (segment m start (length (flat node)))
sits_denotes m y node start sits ok = (ok, sym (sits_segment sits))

node_denotes : (m : List Entry) (n : ℕ) (node : Tree) → Block m n node → (start : ℕ) × (y : ℤ) × (start + length (flat node) ≤ length m) × Denotes node y (segment m start (length (flat node)))
node_denotes m n node h =
    let sits = first_of_run m h.1 h.0 n (flat node) h.2 h.3 in
    (h.0 + 0 * length (flat node), _, sits_inside sits, sits_denotes m _ node _ sits h.4)

pub subtrees_denote : SubtreesDenote
subtrees_denote tree node base m h (inl same) =
    let sits : Sits m base (flat node) 0 = subst (λ t. Sits m base (flat t) 0) (sym same) (denotes_sits tree base m h) in
    (0, base, sits_inside sits, sits_denotes m base node 0 sits (subst IsTree (sym same) h.0))
subtrees_denote tree node base m h (inr within) =
    node_denotes m within.0 node (block_in m base 0 within.0 node tree (denotes_sits tree base m h) h.0 within.1)

pub blocks_are_stacked : BlocksAreStacked
blocks_are_stacked tree node n base m h within =
    let b = block_in m base 0 n node tree (denotes_sits tree base m h) h.0 within in
    let sits = sits_at (b.0 + 0 * length (flat node)) b.0 (omega arith) (first_of_run m b.1 b.0 n (flat node) b.2 b.3) in (
      b.0,
      _,
      omega (arith, sits_inside b.2, length-run n (flat node)),
      sits_denotes m _ node b.0 sits b.4,
      runs_stacked m b.1 n (flat node) b.0 b.2 b.3 (places_an_entry node b.4),
    )
