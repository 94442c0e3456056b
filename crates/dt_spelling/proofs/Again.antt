-- what is spelled is read again, whatever stands behind it
use Rattle.std.proofs.Common.{◌≡◌, ℕ, suc, ◌+◌, ◌-◌, ◌*◌, ◌/◌, ◌≤◌, ◌<◌, min, true, ◌&&◌, nat_le, ℤ, nat_abs, Some, Ok, List, [], ◌∷◌, ◌++◌, map, length, codes, decimal, refl, ap, ◌∙◌, append_assoc, arith}
use Rattle.std.specs.Fmt.{signed_decimal}
use Rattle.std.specs.List.{list_all}
use Rattle.dt_kinds.specs.declared.kind.Kind.{Kind}
use Rattle.dt_kinds.specs.Kind.{name_of}
use Rattle.dt_tree.specs.declared.node.PartOf.{PartOf}
use Rattle.dt_tree.specs.Node.{parts_of}
use Rattle.dt_tree.specs.Rule as rule
use Rattle.dt_tree.specs.Rule.{numbers_fit, parts_fit, part_count, is_step, depth_of, depth_of_parts, words_of_parts as size_of_parts}
use Rattle.dt_tree.specs.Tree.{Tree, leaf, vector, index, group, Parts, no_parts, part}
use Rattle.dt_tree.proofs.Limits.{vector_fits, index_fits, part_fits, group_fits}
use Rattle.dt_spelling.specs.declared.head.Head.{Head}
use Rattle.dt_spelling.specs.declared.head.Head.TheVariants.{Leaf, Vector, Index, Group}
use Rattle.dt_spelling.specs.Reading.{Reader, Spent, bind, on_ok, give, read_as, where_true, with_room, number_in, step_in, head_word, has_room, head_named, head_in, leaf_at, vector_at, index_at, places_at, part_at, parts_at, group_at, behind_head, one_at, node_at}
use Rattle.dt_spelling.specs.Spelling.{Words, words_of, words_of_parts}
use Rattle.dt_spelling.proofs.Numbers.{both_true, le_is, number_spelled, step_spelled, kind_spelled}
use Rattle.dt_spelling.proofs.Steps.{node_more}

abbrev pub size_of : Tree → ℕ
size_of tree = rule.words_of tree

pub size_pos : (tree : Tree) → 1 ≤ size_of tree
size_pos (leaf kind) = omega arith
size_pos (vector count block stride child) = omega arith
size_pos (index block places child) = omega arith
size_pos (group parts) = omega arith

pub depth_pos : (tree : Tree) → 1 ≤ depth_of tree
depth_pos (leaf kind) = omega arith
depth_pos (vector count block stride child) = omega arith
depth_pos (index block places child) = omega arith
depth_pos (group parts) = omega arith

-- a part and a leaf for each part
pub parts_size : (parts : Parts) → 2 * part_count parts ≤ size_of_parts parts
parts_size no_parts = omega arith
parts_size (part block disp child rest) = omega (arith, size_pos child, parts_size rest)

-- the first word of a node
named_again : (head : Head) → head_named (head_word head) ≡ Some head
unfolding head_named
named_again Leaf = refl
named_again Vector = refl
named_again Index = refl
named_again Group = refl

pub head_spelled : (levels spare : ℕ) (head : Head) → has_room levels spare head ≡ true → head_in levels spare (head_word head) ≡ Some head
unfolding head_in
head_spelled levels spare head room = ap (with_room levels spare) (named_again head) ∙ ap (λ b. where_true b head) room

pub one_step : (below : ℕ → Reader (Spent Tree)) (levels spare : ℕ) (head : Head) (words : Words) → has_room levels spare head ≡ true →
    one_at below levels spare (head_word head ∷ words) ≡ behind_head below spare head words
unfolding one_at bind
one_step below levels spare head words room = ap (λ o. on_ok (read_as o (head_word head ∷ words) words) (λ h. behind_head below spare h)) (head_spelled levels spare head room)

number_again : (most n : ℕ) → 1 ≤ n → n ≤ most → n ≤ 1024 → number_in most (decimal n) ≡ Some n
number_again most n low high fits = number_spelled most (decimal n) n low high (omega arith) refl

step_again : (x : ℤ) → is_step x ≡ true → step_in (signed_decimal x) ≡ Some x
step_again x fits = step_spelled (signed_decimal x) x fits refl

-- the words behind the first one
leaf_step : (kind : Kind) (spare : ℕ) (behind : Words) → leaf_at spare (name_of kind ∷ behind) ≡ Ok ((leaf kind, spare), behind)
unfolding leaf_at bind
leaf_step kind spare behind = ap (λ o. on_ok (read_as o (name_of kind ∷ behind) behind) (λ k. give (leaf k, spare))) (kind_spelled kind)

vector_step : (below : ℕ → Reader (Spent Tree)) (count block : ℕ) (stride : ℤ) (child : Tree) (spare left : ℕ) (words behind : Words) →
    number_in 1024 (decimal count) ≡ Some count → number_in 1024 (decimal block) ≡ Some block → step_in (signed_decimal stride) ≡ Some stride →
    below (spare - 1) words ≡ Ok ((child, left), behind) →
    vector_at below spare (decimal count ∷ decimal block ∷ signed_decimal stride ∷ words) ≡ Ok ((vector count block stride child, left), behind)
unfolding vector_at bind
vector_step below count block stride child spare left words behind a b c d = rw a (rw b (rw c (rw d refl)))

places_again : (places : List ℤ) (behind : Words) → list_all is_step places ≡ true → places_at (length places) (map signed_decimal places ++ behind) ≡ Ok (places, behind)
unfolding bind
places_again [] behind e = refl
places_again (x ∷ places) behind e =
    let h = both_true (is_step x) (list_all is_step places) e in
    rw (step_again x h.0) (rw (places_again places behind h.1) refl)

index_step : (below : ℕ → Reader (Spent Tree)) (block : ℕ) (places : List ℤ) (child : Tree) (spare left : ℕ) (words behind : Words) →
    number_in (min (spare - 1) 1024) (decimal (length places)) ≡ Some (length places) → number_in 1024 (decimal block) ≡ Some block →
    places_at (length places) (map signed_decimal places ++ words) ≡ Ok (places, words) →
    below (spare - 1 - length places) words ≡ Ok ((child, left), behind) →
    index_at below spare (decimal (length places) ∷ decimal block ∷ (map signed_decimal places ++ words)) ≡ Ok ((index block places child, left), behind)
unfolding index_at bind
index_step below block places child spare left words behind a b c d = rw a (rw b (rw c (rw d refl)))

part_step : (below : ℕ → Reader (Spent Tree)) (block : ℕ) (disp : ℤ) (child : Tree) (spare left : ℕ) (words behind : Words) →
    number_in 1024 (decimal block) ≡ Some block → step_in (signed_decimal disp) ≡ Some disp → below spare words ≡ Ok ((child, left), behind) →
    part_at below spare (decimal block ∷ signed_decimal disp ∷ words) ≡ Ok ((record { block = block; disp = disp; node = child }, left), behind)
unfolding part_at bind
part_step below block disp child spare left words behind a b c = rw a (rw b (rw c refl))

abbrev list_of : Parts → List (PartOf Tree)
list_of no_parts = []
list_of (part block disp child rest) = (record { block = block; disp = disp; node = child }) ∷ list_of rest

parts_back : (parts : Parts) → parts_of (list_of parts) ≡ parts
parts_back no_parts = refl
parts_back (part block disp child rest) = ap (part block disp child) (parts_back rest)

more_step : (below : ℕ → Reader (Spent Tree)) (p : PartOf Tree) (ps : List (PartOf Tree)) (n m spare middle left : ℕ) (words rest behind : Words) → n ≡ suc m →
    part_at below spare words ≡ Ok ((p, middle), rest) → parts_at below m middle rest ≡ Ok ((ps, left), behind) → parts_at below n spare words ≡ Ok ((p ∷ ps, left), behind)
unfolding bind
more_step below p ps n m spare middle left words rest behind is a b = ap (λ k. parts_at below k spare words) is ∙ rw a (rw b refl)

group_step : (below : ℕ → Reader (Spent Tree)) (parts : Parts) (spare left : ℕ) (words behind : Words) →
    number_in (min (spare / 2) 1024) (decimal (part_count parts)) ≡ Some (part_count parts) →
    parts_at below (part_count parts) (spare - part_count parts - part_count parts) words ≡ Ok ((list_of parts, left), behind) →
    group_at below spare (decimal (part_count parts) ∷ words) ≡ Ok ((group parts, left), behind)
unfolding group_at bind
group_step below parts spare left words behind a b = rw a (rw b (ap (λ ps. Ok ((group ps, left), behind)) (parts_back parts)))

-- how many there may be beside a node
abbrev left_of : ℕ → Tree → ℕ
left_of spare tree = 1 + spare - size_of tree

abbrev Again : Tree → ℕ → ℕ → Words → Words → Type 0
Again tree levels spare words behind = node_at levels spare words ≡ Ok ((tree, left_of spare tree), behind)

at_head : (tree : Tree) (levels spare : ℕ) (head : Head) (words behind : Words) → 1 ≤ levels → has_room (levels - 1) spare head ≡ true →
    behind_head (node_at (levels - 1)) spare head words ≡ Ok ((tree, left_of spare tree), behind) → Again tree levels spare (head_word head ∷ words) behind
at_head tree levels spare head words behind some room e =
    node_more levels (levels - 1) spare (head_word head ∷ words) (omega arith) ∙ (one_step (node_at (levels - 1)) (levels - 1) spare head words room ∙ e)

room_is : (levels spare n : ℕ) → 1 ≤ levels → n ≤ spare → (nat_le 1 levels && nat_le n spare) ≡ true
room_is levels spare n a b = ap (λ x. x && nat_le n spare) (le_is 1 levels a) ∙ le_is n spare b

deep_parts : (parts : Parts) → 0 < part_count parts → 1 ≤ depth_of_parts parts
deep_parts no_parts some = absurd (omega arith)
deep_parts (part block disp child rest) some = omega (arith, depth_pos child)

step_is : (x : ℤ) → nat_abs x ≤ 2305843009213693952 → is_step x ≡ true
step_is x near = le_is (nat_abs x) 2305843009213693952 near

mutual
  pub tree_again : (tree : Tree) (levels spare : ℕ) (behind : Words) → numbers_fit tree ≡ true → depth_of tree ≤ levels → size_of tree ≤ 1 + spare → Again tree levels spare (words_of tree ++ behind) behind
  tree_again (leaf kind) levels spare behind fit deep small =
      at_head (leaf kind) levels spare Leaf (name_of kind ∷ behind) behind (omega arith) refl
      (leaf_step kind spare behind ∙ ap (λ (n : ℕ). Ok ((leaf kind, n), behind)) (omega arith))
  tree_again (vector count block stride child) levels spare behind fit deep small =
      let h = vector_fits count block stride child fit in
      let room = room_is (levels - 1) spare 1 (omega (arith, depth_pos child)) (omega (arith, size_pos child)) in
      at_head (vector count block stride child) levels spare Vector (decimal count ∷ decimal block ∷ signed_decimal stride ∷ (words_of child ++ behind)) behind (omega arith) room
      (vector_step (node_at (levels - 1)) count block stride child spare (left_of (spare - 1) child) (words_of child ++ behind) behind
      (number_again 1024 count h.count_fits.0 h.count_fits.1 h.count_fits.1) (number_again 1024 block h.block_fits.0 h.block_fits.1 h.block_fits.1) (step_again stride (step_is stride h.stride_fits))
      (tree_again child (levels - 1) (spare - 1) behind h.child_fits (omega arith) (omega arith))
      ∙ ap (λ (n : ℕ). Ok ((vector count block stride child, n), behind)) (omega (arith, size_pos child)))
  tree_again (index block places child) levels spare behind fit deep small =
      let h = index_fits block places child fit in
      let room = room_is (levels - 1) spare 2 (omega (arith, depth_pos child)) (omega (arith, size_pos child, h.number_fits)) in
      let few : length places ≤ min (spare - 1) 1024 = omega (arith, size_pos child, h.number_fits) in
      ap (λ (ws : Words). node_at levels spare (codes "index" ∷ decimal (length places) ∷ decimal block ∷ ws)) (append_assoc (map signed_decimal places) (words_of child) behind)
      ∙ at_head (index block places child) levels spare Index (decimal (length places) ∷ decimal block ∷ (map signed_decimal places ++ (words_of child ++ behind))) behind (omega arith) room
      (index_step (node_at (levels - 1)) block places child spare (left_of (spare - 1 - length places) child) (words_of child ++ behind) behind
      (number_again (min (spare - 1) 1024) (length places) h.number_fits.0 few h.number_fits.1) (number_again 1024 block h.block_fits.0 h.block_fits.1 h.block_fits.1)
      (places_again places (words_of child ++ behind) h.places_fit)
      (tree_again child (levels - 1) (spare - 1 - length places) behind h.child_fits (omega arith) (omega (arith, size_pos child)))
      ∙ ap (λ (n : ℕ). Ok ((index block places child, n), behind)) (omega (arith, size_pos child)))
  tree_again (group parts) levels spare behind fit deep small =
      let h = group_fits parts fit in
      let twice = parts_size parts in
      let room = room_is (levels - 1) spare 2 (omega (arith, deep_parts parts h.0)) (omega (arith, h.0, twice)) in
      let few : part_count parts ≤ min (spare / 2) 1024 = omega (arith, twice, h.1) in
      at_head (group parts) levels spare Group (decimal (part_count parts) ∷ (words_of_parts parts ++ behind)) behind (omega arith) room
      (group_step (node_at (levels - 1)) parts spare (2 * part_count parts + (spare - part_count parts - part_count parts) - size_of_parts parts) (words_of_parts parts ++ behind) behind
      (number_again (min (spare / 2) 1024) (part_count parts) h.0 few h.1)
      (parts_again parts (levels - 1) (spare - part_count parts - part_count parts) behind h.2 (omega arith) (omega (arith, twice)))
      ∙ ap (λ (n : ℕ). Ok ((group parts, n), behind)) (omega (arith, twice)))

  pub parts_again : (parts : Parts) (levels spare : ℕ) (behind : Words) → parts_fit parts ≡ true → depth_of_parts parts ≤ levels → size_of_parts parts ≤ 2 * part_count parts + spare →
      parts_at (node_at levels) (part_count parts) spare (words_of_parts parts ++ behind) ≡ Ok ((list_of parts, 2 * part_count parts + spare - size_of_parts parts), behind)
  parts_again no_parts levels spare behind fit deep small = ap (λ (n : ℕ). Ok (([], n), behind)) (omega arith)
  parts_again (part block disp child rest) levels spare behind fit deep small =
      let h = part_fits block disp child rest fit in
      let twice = parts_size rest in
      let p : PartOf Tree = record { block = block; disp = disp; node = child } in
      let first = tree_again child levels spare (words_of_parts rest ++ behind) h.child_fits (omega arith) (omega (arith, twice)) in
      let more = parts_again rest levels (left_of spare child) behind h.rest_fits (omega arith) (omega (arith, twice, size_pos child)) in
      ap (λ (ws : Words). parts_at (node_at levels) (1 + part_count rest) spare (decimal block ∷ signed_decimal disp ∷ ws)) (append_assoc (words_of child) (words_of_parts rest) behind)
      ∙ (more_step (node_at levels) p (list_of rest) (1 + part_count rest) (part_count rest) spare (left_of spare child) (2 * part_count rest + left_of spare child - size_of_parts rest)
      (decimal block ∷ signed_decimal disp ∷ (words_of child ++ (words_of_parts rest ++ behind))) (words_of_parts rest ++ behind) behind (omega arith)
      (part_step (node_at levels) block disp child spare (left_of spare child) (words_of child ++ (words_of_parts rest ++ behind)) (words_of_parts rest ++ behind)
      (number_again 1024 block h.block_fits.0 h.block_fits.1 h.block_fits.1) (step_again disp (step_is disp h.disp_fits)) first) more
      ∙ ap (λ (n : ℕ). Ok ((p ∷ list_of rest, n), behind)) (omega (arith, twice, size_pos child)))
