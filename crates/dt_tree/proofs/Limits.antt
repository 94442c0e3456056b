-- what the limits of numbers say
use Rattle.std.proofs.Common.{◌≡◌, ℕ, zero, suc, pos, [], ◌∷◌, get_or, ◌≤◌, ◌<◌, Bool, true, false, ◌&&◌, nat_le, inl, inr, ℤ, nat_abs, List, length, refl, sym, ap, ◌∙◌, arith}
use mir.Syntax.{w64}
use mir.Val.{to_z, of_z}
use Rattle.std.proofs.lemmas.Int.{ints}
use Rattle.std.proofs.lemmas.Bool.Decides.{leb_tells}
use Rattle.std.specs.List.{list_all}
use Rattle.dt_tree.specs.declared.node.Node.{Node}
use Rattle.dt_tree.specs.declared.node.Node.TheVariants.{Vector, Index, Group}
use Rattle.dt_tree.specs.declared.node.PartOf.{PartOf}
use Rattle.dt_tree.specs.Node.{tree_of, trees_of}
use Rattle.dt_tree.specs.Rule.{is_count, is_step, numbers_fit, parts_fit, part_count}
use Rattle.dt_tree.specs.Tree.{Tree, vector, index, group, Parts, part}
use Rattle.dt_tree.proofs.Nodes.{of_vector, of_index, of_group, count_of}

both_true : (a b : Bool) → (a && b) ≡ true → (a ≡ true) × (b ≡ true)
both_true true true e = (refl, refl)
both_true true false e = cc
both_true false b e = cc

is_le : (a b : ℕ) → nat_le a b ≡ true → a ≤ b
is_le a b e = elim (leb_tells a b) [ inl h ↦ h.1 | inr h ↦ absurd (cc (e, h.0)) ]

pub count_fits : (n : ℕ) → is_count n ≡ true → (0 < n) × (n ≤ 1024)
count_fits n e = let h = both_true (nat_le 1 n) (nat_le n 1024) e in (is_le 1 n h.0, is_le n 1024 h.1)

pub step_fits : (x : ℤ) → is_step x ≡ true → nat_abs x ≤ 2305843009213693952
step_fits x e = is_le (nat_abs x) 2305843009213693952 e

-- a stride, a place or a displacement, read back from its bits
pub step_back : (x : ℤ) → nat_abs x ≤ 2305843009213693952 → to_z w64 (of_z w64 x) ≡ x
step_back x near = omega (arith, ints)

pub step_at : (places : List ℤ) (k : ℕ) → list_all is_step places ≡ true → k < length places → nat_abs (get_or places k (pos 0)) ≤ 2305843009213693952
step_at [] k all lt = absurd (omega arith)
step_at (x ∷ xs) zero all lt = step_fits x (both_true (is_step x) (list_all is_step xs) all).0
step_at (x ∷ xs) (suc k) all lt = step_at xs k (both_true (is_step x) (list_all is_step xs) all).1 (omega arith)

-- the numbers of each kind of node
pub record VectorFits (count block : ℕ) (stride : ℤ) (child : Tree) : Type 0 where
  pub count_fits : (0 < count) × (count ≤ 1024)
  pub block_fits : (0 < block) × (block ≤ 1024)
  pub stride_fits : nat_abs stride ≤ 2305843009213693952
  pub child_fits : numbers_fit child ≡ true

pub vector_fits : (count block : ℕ) (stride : ℤ) (child : Tree) → numbers_fit (vector count block stride child) ≡ true → VectorFits count block stride child
vector_fits count block stride child e =
    let a = both_true (is_count count) (is_count block && (is_step stride && numbers_fit child)) e in
    let b = both_true (is_count block) (is_step stride && numbers_fit child) a.1 in
    let c = both_true (is_step stride) (numbers_fit child) b.1 in
    record { count_fits = count_fits count a.0; block_fits = count_fits block b.0; stride_fits = step_fits stride c.0; child_fits = c.1 }

pub record IndexFits (block : ℕ) (places : List ℤ) (child : Tree) : Type 0 where
  pub block_fits : (0 < block) × (block ≤ 1024)
  pub number_fits : (0 < length places) × (length places ≤ 1024)
  pub places_fit : list_all is_step places ≡ true
  pub child_fits : numbers_fit child ≡ true

pub index_fits : (block : ℕ) (places : List ℤ) (child : Tree) → numbers_fit (index block places child) ≡ true → IndexFits block places child
index_fits block places child e =
    let a = both_true (is_count block) (is_count (length places) && (list_all is_step places && numbers_fit child)) e in
    let b = both_true (is_count (length places)) (list_all is_step places && numbers_fit child) a.1 in
    let c = both_true (list_all is_step places) (numbers_fit child) b.1 in
    record { block_fits = count_fits block a.0; number_fits = count_fits (length places) b.0; places_fit = c.0; child_fits = c.1 }

pub record PartFits (block : ℕ) (disp : ℤ) (child : Tree) (rest : Parts) : Type 0 where
  pub block_fits : (0 < block) × (block ≤ 1024)
  pub disp_fits : nat_abs disp ≤ 2305843009213693952
  pub child_fits : numbers_fit child ≡ true
  pub rest_fits : parts_fit rest ≡ true

pub part_fits : (block : ℕ) (disp : ℤ) (child : Tree) (rest : Parts) → parts_fit (part block disp child rest) ≡ true → PartFits block disp child rest
part_fits block disp child rest e =
    let a = both_true (is_count block) (is_step disp && (numbers_fit child && parts_fit rest)) e in
    let b = both_true (is_step disp) (numbers_fit child && parts_fit rest) a.1 in
    let c = both_true (numbers_fit child) (parts_fit rest) b.1 in
    record { block_fits = count_fits block a.0; disp_fits = step_fits disp b.0; child_fits = c.0; rest_fits = c.1 }

pub group_fits : (parts : Parts) → numbers_fit (group parts) ≡ true → (0 < part_count parts) × (part_count parts ≤ 1024) × (parts_fit parts ≡ true)
group_fits parts e =
    let a = both_true (is_count (part_count parts)) (parts_fit parts) e in
    let b = count_fits (part_count parts) a.0 in
    (b.0, b.1, a.1)

-- and of a program's nodes
pub of_vector_fits : (node : Node) (count block : ℕ) (stride : ℤ) (child : Node) → numbers_fit (tree_of node) ≡ true → node ≡ Vector count block stride child → VectorFits count block stride (tree_of child)
of_vector_fits node count block stride child e is = vector_fits count block stride (tree_of child) (sym (ap numbers_fit (ap tree_of is ∙ of_vector count block stride child)) ∙ e)

pub of_index_fits : (node : Node) (block : ℕ) (places : List ℤ) (child : Node) → numbers_fit (tree_of node) ≡ true → node ≡ Index block places child → IndexFits block places (tree_of child)
of_index_fits node block places child e is = index_fits block places (tree_of child) (sym (ap numbers_fit (ap tree_of is ∙ of_index block places child)) ∙ e)

pub of_group_fits : (node : Node) (parts : List (PartOf Node)) → numbers_fit (tree_of node) ≡ true → node ≡ Group parts → (0 < length parts) × (length parts ≤ 1024) × (parts_fit (trees_of parts) ≡ true)
of_group_fits node parts e is =
    let h = group_fits (trees_of parts) (sym (ap numbers_fit (ap tree_of is ∙ of_group parts)) ∙ e) in
    let n = count_of parts in
    (omega (arith, h.0), omega (arith, h.1), h.2)
