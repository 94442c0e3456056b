-- numbers of elements
use Rattle.std.proofs.Common.{◌≡◌, ℕ, zero, suc, ◌+◌, ◌*◌, ◌≤◌, min, inl, inr, ℤ, List, length, ap, ◌∙◌, arith, length-append}
use Rattle.std.proofs.lemmas.Bool.{cases_lt}
use Rattle.std.proofs.Math.Nat.{mul-le-mul_left}
use Rattle.dt_map.specs.Runs.{even, run}
use Rattle.dt_map.specs.Typemap.{shift}
use Rattle.dt_map.proofs.Seats.{length-even, length-run}
use Rattle.dt_map.proofs.Summaries.{length-shift}
use Rattle.dt_tree.specs.declared.node.Node.{Node}
use Rattle.dt_tree.specs.declared.node.Node.TheVariants.{Vector, Index}
use Rattle.dt_tree.specs.Node.{tree_of}
use Rattle.dt_tree.specs.Number.{capped}
use Rattle.dt_tree.specs.Tree.{Tree, vector, index, Parts, part, flat, flat_parts}
use Rattle.dt_tree.proofs.Nodes.{of_vector, of_index}
use Rattle.dt_tree.proofs.Subtrees.{length-blocks}

pub times_capped : (n whole one : ℕ) → one ≡ capped whole → min (n * one) 18446744073709551616 ≡ capped (n * whole)
times_capped zero whole one is = omega arith
times_capped (suc n) whole one is =
    elim (cases_lt whole 18446744073709551616) [
      | inl less ↦ let same : one ≡ whole = omega arith in ap (λ k. min (suc n * k) 18446744073709551616) same
      | inr from ↦
          let still : one ≡ 18446744073709551616 = omega arith in
          let more : suc n * 18446744073709551616 ≤ suc n * whole = mul-le-mul_left (suc n) from in
          ap (λ k. min (suc n * k) 18446744073709551616) still ∙ omega (arith, more)
    ]

pub number_of_vector : (count block : ℕ) (stride : ℤ) (child : Tree) → length (flat (vector count block stride child)) ≡ count * (block * length (flat child))
number_of_vector count block stride child = length-blocks (even count stride) block (flat child) ∙ ap (λ n. n * (block * length (flat child))) (length-even count stride)

pub number_of_index : (block : ℕ) (places : List ℤ) (child : Tree) → length (flat (index block places child)) ≡ length places * (block * length (flat child))
number_of_index block places child = length-blocks places block (flat child)

pub number_of_part : (block : ℕ) (disp : ℤ) (child : Tree) (rest : Parts) → length (flat_parts (part block disp child rest)) ≡ block * length (flat child) + length (flat_parts rest)
number_of_part block disp child rest =
    omega (arith, length-append (shift disp (run block (flat child))) (flat_parts rest), length-shift disp (run block (flat child)), length-run block (flat child))

pub of_vector_number : (node : Node) (count block : ℕ) (stride : ℤ) (child : Node) → node ≡ Vector count block stride child →
    length (flat (tree_of node)) ≡ count * (block * length (flat (tree_of child)))
of_vector_number node count block stride child is =
    ap (λ t. length (flat t)) (ap tree_of is ∙ of_vector count block stride child) ∙ number_of_vector count block stride (tree_of child)

pub of_index_number : (node : Node) (block : ℕ) (places : List ℤ) (child : Node) → node ≡ Index block places child →
    length (flat (tree_of node)) ≡ length places * (block * length (flat (tree_of child)))
of_index_number node block places child is =
    ap (λ t. length (flat t)) (ap tree_of is ∙ of_index block places child) ∙ number_of_index block places (tree_of child)

-- one part more
pub total_more : (total one next n rest : ℕ) (whole : ℕ) → one ≡ capped n → next ≡ min (total + one) 18446744073709551616 → capped (total + (n + rest)) ≡ whole → capped (next + rest) ≡ whole
total_more total one next n rest whole e f h = omega (arith, e, f, h)
